use Prim.Native.Nat.{ℕ, suc, ◌+◌, ◌-◌, ◌<◌}
use mathlib.Core.Path.{◌≡◌, refl, ap}
use native.Mathlib.Omega.{arith}
use borrow.Author.Rules.{rules}
use Rattle.answer.proofs.Exits.{exit}
use Rattle.items.specs.Items.{◌then◌, times}
use Rattle.items.proofs.Runs.{times_none, times_more}
use Rattle.read_steps.proofs.Flow.{continues-trans, continues_same, continues_end, continues_part, refused_part}
use Rattle.whole.proofs.Aligned.{aligned_after}
use Rattle.lm_items.specs.Asked.{string_items}
use Rattle.lm_items.specs.declared.Kind.{Kind}
use Rattle.lm_strings.proofs.Wholes.{whole_string}
use Rattle.lm_strings.proofs.strings.Goals as goal

-- what is left begins with one string
one_more : (kind : Kind) {done count : ℕ} → done < count → times (count - done) (string_items kind) ≡ string_items kind then times (count - (done + 1)) (string_items kind)
one_more kind {done} {count} h =
    let more : count - done ≡ suc (count - (done + 1)) = omega arith in
    times_more (count - done) (count - (done + 1)) (string_items kind) more

pub loop-init : goal.loop-init
loop-init c =
    let a = c.args in
    let all : a.count ≡ a.count - 0 = omega arith in
    (refl, refl, c.requires.1, continues_same (ap (λ (n : ℕ). times n (string_items a.kind)) all))

pub returns-in_err-here : goal.returns-in_err-here
returns-in_err-here c =
    rw (exit _ c.from_residual.ensures.1)
    ((continues-trans c.loop.invariant.3 (continues_same (one_more c.args.kind c.loop-test.true))).complete _ _ _
    (refused_part _ _ c.in_err-here.ensures refl))

pub loop-preserved : goal.loop-preserved
loop-preserved c =
    let kind = c.args.kind in (
      search rules,
      search rules,
      aligned_after (whole_string kind) c.loop.invariant.2 c.in_ok-here.ensures refl,
      continues-trans c.loop.invariant.3
          (continues-trans (continues_same (one_more kind c.loop-test.true)) (continues_part _ _ c.in_ok-here.ensures refl)),
    )

pub returns : goal.returns
returns c =
    let a = c.args in
    continues_end (continues-trans c.loop.invariant.3 (continues_same (times_none (a.count - c.loop.counter) (string_items a.kind) (omega arith))))
