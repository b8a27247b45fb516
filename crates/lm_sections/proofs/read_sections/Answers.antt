use mathlib.Core.Path.{◌≡◌, ap}
use native.Mathlib.Omega.{arith}
use borrow.Author.Rules.{rules}
use Rattle.answer.proofs.Exits.{exit}
use Rattle.read_steps.proofs.Flow.{continues-trans, continues_same, continues_end}
use Rattle.lm_items.specs.Asked.{rank, asked}
use Rattle.lm_sections.proofs.Sections.{no_more}
use Rattle.lm_sections.proofs.read_sections.Goals as goal

pub returns-in_err-following : goal.returns-in_err-following
returns-in_err-following c =
    rw (exit _ c.from_residual.ensures.1) (c.loop-section.invariant.3.complete _ _ _ c.in_err-following.ensures)

pub loop-section-preserved : goal.loop-section-preserved
loop-section-preserved c =
    let passes = c.in_ok-following.ensures in
    (search rules, search rules, passes.2, continues-trans c.loop-section.invariant.3 passes.0)

pub returns : goal.returns
unfolding asked
returns c =
    let none : rank c.loop-section.section ≡ 0 = omega (arith, c.loop-section-test.false, c.rank.ensures) in
    continues_end (continues-trans c.loop-section.invariant.3 (continues_same (ap asked (no_more c.loop-section.section none))))
