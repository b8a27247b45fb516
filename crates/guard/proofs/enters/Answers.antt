-- `guard::enters` meets its contract. The row's own test, then its depth between two bounds.
-- Assumes nothing.
use native.Mathlib.Omega.{arith}
use mathlib.Core.Bool.{true}
use mathlib.Core.Path.{◌≡◌, sym, ap, ◌∙◌}
use lib.Dec.{leb}
use Rattle.row.proofs.Bools.{below_within}
use Rattle.encoding.specs.Guarded.{held_depth, fits}
use Rattle.encoding.proofs.Guarded.{fits_below}
use Rattle.guard.proofs.Laws.{within_most, unfit-out, fit-enters}
use Rattle.guard.proofs.enters.Goals as goal

pub returns-then-not-fits : goal.returns-then-not-fits
returns-then-not-fits c = let a = c.args in unfit-out a.state.now a.at (sym c.fits.ensures ∙ c.if-not-fits.true)

-- past its own test

pub depth_at-depth-requires : goal.depth_at-depth-requires
depth_at-depth-requires c =
    let fit : fits c.args.state.now c.args.at ≡ true = sym c.fits.ensures ∙ c.if-not-fits.false in
    (c.requires, omega (arith, fits_below c.args.state.now c.args.at (fit)))

pub returns-then-depth-eq0 : goal.returns-then-depth-eq0
returns-then-depth-eq0 c =
    let fit : fits c.args.state.now c.args.at ≡ true = sym c.fits.ensures ∙ c.if-not-fits.false in
    let a = c.args in
    let d = held_depth a.state.now a.at in
    sym (below_within 1 32 d (omega (arith, c.depth_at-depth.ensures))) ∙ fit-enters a.state.now a.at (fit)

pub returns : goal.returns
returns c =
    let fit : fits c.args.state.now c.args.at ≡ true = sym c.fits.ensures ∙ c.if-not-fits.false in
    let a = c.args in
    let d = held_depth a.state.now a.at in
    ap (λ n. leb n 32) c.depth_at-depth.ensures
    ∙ sym (within_most 1 32 d (omega (arith, c.depth_at-depth.ensures, c.if-depth-eq0.false)))
    ∙ fit-enters a.state.now a.at (fit)
