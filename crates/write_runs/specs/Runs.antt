-- A run of values as octets: each is put as eight bits (document 01, "Bits and values").
use Rattle.std.specs.Prelude.{ℕ, zero, suc, ◌+◌, ◌-◌, ◌*◌, ◌/◌, ◌<◌, ◌≤◌, min, Bool, true, false, ◌≡◌, List, [], ◌∷◌, ◌++◌, ltb, ℤ, pos, negsuc, nat_abs, length, get_or}
use Rattle.bits.specs.Bits.{bits_of, unpack}
use Rattle.bits.specs.Access.{overwritten}

-- whether a value is an octet
abbrev pub is_octet : ℤ → Bool
is_octet (pos n) = ltb n 256
is_octet (negsuc n) = false

-- the bits of n values of a list from index i on, each an octet
unfoldable pub octet_bits : ℕ → List ℤ → ℕ → List Bool
octet_bits zero list i = []
octet_bits (suc n) list i = bits_of 8 (nat_abs (get_or list i (pos 0))) ++ octet_bits n list (suc i)

-- n values of a list from an index on, all of them octets, were put from a place on
pub record Puts (list : List ℤ) (index n : ℕ) (old : List ℕ) (place : ℕ) (new : List ℕ) : Type 0 where
  pub octets : (i : ℕ) → i < n → is_octet (get_or list (index + i) (pos 0)) ≡ true
  pub output : unpack new ≡ overwritten (unpack old) place (octet_bits n list index)

-- how many of the values that two slices hold stand in the one that a run is written from: the first, or the octets where it is empty
abbrev pub reach : List ℤ → List ℕ → ℕ
reach [] packed = length packed / 8
reach (v ∷ vs) packed = length (v ∷ vs)

-- the most that a run can put: of count, of the values within reach, of the octets behind a place
abbrev pub most_of : ℕ → ℕ → ℕ → ℕ → ℕ → ℕ
most_of count within index octets place = min (min count ((8 * octets - place) / 8)) (within - index)

-- so many were put: all that there can be, or those before the first value that is no octet
pub record Written (list : List ℤ) (within index count : ℕ) (old : List ℕ) (place n : ℕ) (new : List ℕ) : Type 0 where
  pub most : n ≤ most_of count within index (length old) place
  pub listed : n ≤ length list - index
  pub stops : n < most_of count within index (length old) place → is_octet (get_or list (index + n) (pos 0)) ≡ false
  pub puts : Puts list index n old place new
