-- `window::replace` meets its contract. The bits are cleared by a mask, and the number fits 40 bits, so that nothing wraps.
use native.Mathlib.Omega.{arith}
use lib.Bits.{and_le_l}
use Rattle.window.proofs.Parts.{placed_fits, placed-masked}
use Rattle.window.proofs.replace.Goals as goal

pub returns : goal.returns
returns c =
    let a = c.args in
    rw (c.raised-2.ensures, c.from.ensures, c.raised.ensures, c.power.ensures.0)
    (placed-masked a.window a.below a.k a.v)

pub overflow_add-result : goal.overflow_add-result
overflow_add-result c =
    let a = c.args in
    let pre = c.requires in
    let fits = placed_fits a.window a.below a.k a.v pre.2 pre.0 (omega arith) in
    omega (arith, returns c)

pub overflow_sub-result : goal.overflow_sub-result
overflow_sub-result c = and_le_l c.args.window c.raised.result
