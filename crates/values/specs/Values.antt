-- Values in memory: as a slice of 64-bit numbers, or as octets, eight for each value, little-endian, two's complement
-- (document 01, the host's calls). Octets after the last whole eight hold no value.
use Rattle.std.specs.Prelude.{ℕ, zero, suc, ◌+◌, ◌-◌, ◌*◌, ◌/◌, ◌%◌, ◌^◌, cond, List, [], ◌∷◌, ◌++◌, leb, ltb, ℤ, pos, negsuc, length, take, drop}

-- n as k octets, the lowest first
abbrev pub little_endian : ℕ → ℕ → List ℕ
little_endian zero n = []
little_endian (suc k) n = n % 256 ∷ little_endian k (n / 256)

-- the number that octets spell, the lowest first
abbrev pub little_number : List ℕ → ℕ
little_number [] = 0
little_number (o ∷ os) = o + 256 * little_number os

-- a value in two's complement on 64 bits, and back
abbrev pub complement : ℤ → ℕ
complement (pos n) = n
complement (negsuc n) = 2 ^ 64 - 1 - n

abbrev pub uncomplement : ℕ → ℤ
uncomplement n = cond (ltb n (2 ^ 63)) (pos n) (negsuc (2 ^ 64 - 1 - n))

-- the eight octets of a value
unfoldable pub value_octets : ℤ → List ℕ
value_octets v = little_endian 8 (complement v)

-- those of a list
unfoldable pub list_octets : List ℤ → List ℕ
list_octets [] = []
list_octets (v ∷ vs) = value_octets v ++ list_octets vs

-- the first n values of octets
unfoldable pub values_from : ℕ → List ℕ → List ℤ
values_from zero o = []
values_from (suc n) o = uncomplement (little_number (take 8 o)) ∷ values_from n (drop 8 o)

-- the values of octets, eight each
unfoldable pub values_in : List ℕ → List ℤ
values_in o = values_from (length o / 8) o

-- octets with a value at index i, in the eight from 8 * i on; as they were where those aren't all there
unfoldable pub set_value : List ℕ → ℕ → ℤ → List ℕ
set_value o i v = cond (leb (8 * i + 8) (length o)) (take (8 * i) o ++ (value_octets v ++ drop (8 * i + 8) o)) o

-- values stored one after another from index i on, by what storing one means
abbrev pub store_all : {A : Type 0} → (List A → ℕ → ℤ → List A) → List A → ℕ → List ℤ → List A
store_all put l i [] = l
store_all put l i (v ∷ vs) = store_all put (put l i v) (suc i) vs
