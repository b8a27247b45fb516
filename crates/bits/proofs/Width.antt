-- The width of a number is the smallest that holds it.
-- Assumes nothing.
use mathlib.Core.Path.{refl}
use Rattle.bits.specs.Bits.{width}
use Rattle.bits.specs.Width.{SmallestWidth}
use Rattle.bits.proofs.Bits.{width_above, width-least}

pub smallest-width : SmallestWidth
unfolding width
smallest-width = record { above = width_above; least = width-least; none = refl }
