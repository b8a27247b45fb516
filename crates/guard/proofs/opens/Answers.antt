-- `guard::opens` meets its contract. By the kind of the row.
-- Assumes nothing.
use Prim.Native.Nat.{ℕ, ◌≤◌}
use mathlib.Core.Bool.{true}
use mathlib.Core.Path.{◌≡◌, sym, ◌∙◌}
use mathlib.Core.List.{List}
use native.Mathlib.Omega.{arith}
use lib.ListN.{length}
use Rattle.row.specs.Fits.{Fits}
use Rattle.row.proofs.Fits.{fixed_fits, counted_fits}
use Rattle.encoding.specs.Guarded.{fits, opens}
use Rattle.encoding.proofs.Guarded.{fits_below, fits_row}
use Rattle.guard.proofs.Laws.{others-open}
use Rattle.guard.proofs.opens.Goals as goal

row-at : {st : List ℕ} {o : ℕ} → (6144 ≤ length st) × (fits st o ≡ true) → Fits st o
row-at {st} {o} h = fits_row st o (omega arith) h.1

pub kind_at-kind-requires : goal.kind_at-kind-requires
kind_at-kind-requires c = (row-at c.requires).start

pub run_at-requires : goal.run_at-requires
run_at-requires c = (fixed_fits (row-at c.requires) (sym c.kind_at-kind.ensures.0 ∙ c.in-3.is)).1

pub leads-requires : goal.leads-requires
leads-requires c = (c.requires.0, omega (arith, fits_below c.args.state.now c.args.at c.requires.1))

pub run_at-requires-in-4 : goal.run_at-requires-in-4
run_at-requires-in-4 c = (counted_fits (row-at c.requires) (sym c.kind_at-kind.ensures.0 ∙ c.in-4.is)).1

pub leads-requires-in-4 : goal.leads-requires-in-4
leads-requires-in-4 c = (c.requires.0, omega (arith, fits_below c.args.state.now c.args.at c.requires.1))

pub returns-in-3 : goal.returns-in-3
unfolding opens
returns-in-3 c = rw ((fixed_fits (row-at c.requires) (sym c.kind_at-kind.ensures.0 ∙ c.in-3.is)).0, ← c.run_at.ensures.0) c.leads.ensures

pub returns-in-4 : goal.returns-in-4
unfolding opens
returns-in-4 c =
    rw ((counted_fits (row-at c.requires) (sym c.kind_at-kind.ensures.0 ∙ c.in-4.is)).0, ← c.run_at-in-4.ensures.0) c.leads-in-4.ensures

pub returns-in_default : goal.returns-in_default
returns-in_default c = let a = c.args in others-open a.state.now a.at (λ e. omega arith) (λ e. omega arith) (λ e. omega arith)
