-- `parts::is_marked` meets its contract. The field's bit of the mask, counted from the top.
-- Assumes nothing.
use Prim.Native.Nat.{◌-◌, suc}
use mathlib.Core.Path.{◌≡◌, ap, ◌∙◌, sym}
use native.Mathlib.Omega.{arith}
use Rattle.bits.proofs.Bits.{odd, bit_of}
use Rattle.parts.proofs.is_marked.Goals as goal

pub returns : goal.returns
unfolding odd
returns c =
    let a = c.args in
    let e : a.fields - 1 - a.field ≡ a.fields - suc a.field = omega arith in
    ap (odd a.mask) e ∙ sym (bit_of a.fields a.mask a.field c.requires.2 c.requires.0)
