-- `guard::leads` meets its contract. Each way out is a test that fails; the last is the row's own.
-- Assumes nothing.
use native.Mathlib.Omega.{arith}
use mathlib.Core.Path.{sym, ◌∙◌}
use Rattle.guard.proofs.Laws.{later-apart, none_apart, deeper-apart, lower-leads}
use Rattle.guard.proofs.leads.Goals as goal

pub returns-then-at-row : goal.returns-then-at-row
returns-then-at-row c = let a = c.args in later-apart a.state.now a.at a.row (omega arith)

pub returns-then-depth-eq0 : goal.returns-then-depth-eq0
returns-then-depth-eq0 c = let a = c.args in none_apart a.state.now a.at a.row (sym c.depth_at-depth.ensures ∙ c.if-depth-eq0.true)

pub returns-then-depth_at-depth : goal.returns-then-depth_at-depth
returns-then-depth_at-depth c =
    let a = c.args in
    deeper-apart a.state.now a.at a.row (omega (arith, c.depth_at.ensures, c.depth_at-depth.ensures))

pub returns : goal.returns
returns c =
    let a = c.args in
    let below = c.depth_at-depth.ensures in
    c.fits.ensures
    ∙ lower-leads a.state.now a.at a.row (omega arith) (omega (arith, below, c.if-depth-eq0.false)) (omega (arith, below, c.depth_at.ensures, c.if-depth_at-depth.false))
