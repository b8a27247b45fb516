-- The bits of numbers and indices are as few as hold them.
-- Assumes nothing.
use Prim.Native.Nat.{◌-◌}
use native.Mathlib.Omega.{arith}
use lib.ListN.{length}
use lib.Pow.{pow_pos}
use Rattle.bits.specs.Bits.{width}
use Rattle.bits.proofs.Bits.{length-bits_of, width_above, width-least}
use Rattle.item.specs.Widths.{ItemWidths}

pub item-widths : ItemWidths
item-widths = record {
  numbers = λ low v span. length-bits_of (width span) _;
  indices = λ branches v. length-bits_of (width (length branches - 1)) _;
  enough = λ branches. omega (arith, width_above (length branches - 1));
  least = λ branches k h. width-least (length branches - 1) k (omega (arith, pow_pos k));
}
