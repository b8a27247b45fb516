-- Which values each kind of item allows, as ranges of whole numbers (document 01, "Bits and values": a number from low to low
-- plus span, a variable number from 0 to 270,549,119, a length from its least to its most). The proofs are in proofs/Ranges.antt.
use Rattle.std.specs.Prelude.{ℕ, ◌+◌, min, Bool, false, ◌&&◌, ◌≡◌, List, ℤ, pos, negsuc, ◌+ℤ◌, get_or}
use Rattle.std.specs.Int.Signed.{le_z}
use Rattle.item.specs.Code.{number, variable, length_within, index, allows}

pub record ItemRanges : Type 0 where
  pub numbers : (low v : ℤ) (span : ℕ) → allows (number low span) v ≡ le_z low v && le_z v (low +ℤ pos span)
  pub variables : (v : ℤ) → allows variable v ≡ le_z (pos 0) v && le_z v (pos 270549119)
  -- no length above 16383 has a form
  pub lengths : (least most : ℕ) (v : ℤ) → allows (length_within least most) v ≡ le_z (pos least) v && le_z v (pos (min most 16383))
  -- an index of a branch that is there, and no negative number
  pub indices : (branches : List Bool) (n : ℕ) → allows (index branches) (pos n) ≡ get_or branches n false
  pub negative : (branches : List Bool) (n : ℕ) → allows (index branches) (negsuc n) ≡ false
