-- `loaded::read_root` meets its contract. The root that the state tells, where it can be read.
-- Assumes nothing.
use mathlib.Core.Bool.{true, false}
use mathlib.Core.Path.{◌≡◌, sym, ◌∙◌}
use native.Mathlib.Omega.{arith}
use Rattle.encoding.specs.Guarded.{enters, guarded_root}
use Rattle.encoding.proofs.Guarded.{enters_fits}
use Rattle.loading.specs.State.{held_root}
use Rattle.guard.proofs.Readable.{asks-state, readable-state, untested}
use Rattle.read_begin.proofs.Beginnings.{never_reads}
use Rattle.loaded.proofs.read_root.Goals as goal

pub returns-then-not-enters : goal.returns-then-not-enters
unfolding guarded_root held_root
returns-then-not-enters c =
    let out : enters c.args.state.now c.u16_at-at.result ≡ false = sym c.enters.ensures ∙ c.if-not-enters.true in
    rw (← c.u16_at-at.ensures.0, out, c.unreadable.ensures) (never_reads _)

pub read_row-requires : goal.read_row-requires
read_row-requires c =
    let st = c.args.state.now in
    let at = c.u16_at-at.result in
    let in-it : enters st at ≡ true = sym c.enters.ensures ∙ c.if-not-enters.false in
    (readable-state st at (omega (arith, c.requires.0)) (enters_fits st at in-it), untested st at (omega (arith, c.requires.0)), c.requires.1)

pub returns : goal.returns
unfolding guarded_root held_root
returns c =
    let in-it : enters c.args.state.now c.u16_at-at.result ≡ true = sym c.enters.ensures ∙ c.if-not-enters.false in
    rw (← c.u16_at-at.ensures.0, in-it, ← asks-state c.args.state.now c.u16_at-at.result (omega (arith, c.requires.0))) c.read_row.ensures
