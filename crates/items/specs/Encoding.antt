-- A list's encoding (document 01): the bits of its values, then zero bits to the octet's end; where there are no bits, the
-- octet 00.
use Rattle.std.specs.Prelude.{ℕ, ◌+◌, ◌-◌, ◌*◌, ◌/◌, max, Bool, false, List, ◌++◌, ℤ, length, replicate}
use Rattle.bits.specs.Bits.{pack}
use Rattle.items.specs.Items.{Items, encoding_bits}

-- how many octets hold n bits, and one where there are none
abbrev pub size : ℕ → ℕ
size n = max 1 ((n + 7) / 8)

-- the zero bits after n bits
abbrev pub padding : ℕ → List Bool
padding n = replicate (8 * size n - n) false

-- bits as whole octets
abbrev pub padded : List Bool → List ℕ
padded b = pack (size (length b)) (b ++ padding (length b))

-- the octets of a list
abbrev pub encoding : Items → List ℤ → List ℕ
encoding p vs = padded (encoding_bits p vs)
