-- `guard::fits` meets its contract. Too far on or of no kind, it does not; each arm is the test of its kind.
-- Assumes nothing.
use native.Mathlib.Omega.{arith}
use mathlib.Core.Bool.{false}
use mathlib.Core.Path.{◌≡◌, sym, ap, ◌∙◌}
use Rattle.row.specs.Rows.{within}
use Rattle.std.proofs.lemmas.Bool.Decides.{nat_tests}
use Rattle.guard.proofs.Laws.{far-unfit, kind-unfit}
use Rattle.guard.proofs.fits.Goals as goal

pub returns-then-at : goal.returns-then-at
returns-then-at c = let a = c.args in far-unfit a.state.now a.at (omega arith)

pub returns-in_default : goal.returns-in_default
unfolding within
returns-in_default c =
    let a = c.args in
    let n : within 1 8 c.kind_at-kind.result ≡ false = grind (arith, nat_tests) in
    kind-unfit a.state.now a.at (ap (within 1 8) (sym c.kind_at-kind.ensures.0) ∙ n)
