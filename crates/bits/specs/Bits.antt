-- Bits, top bit first, as lists of Bool: the k bits of a number, the number of some bits, the bits of octets and the octets
-- of bits (document 01, "Bits and values"; X.691, 11.3 and 11.5: a whole number in the fewest bits that its range needs).
-- Definitions alone, each once over the width k. That `width` is the smallest is stated in Width.antt.
use Rattle.std.specs.Prelude.{ℕ, zero, suc, ◌+◌, ◌-◌, ◌^◌, Bool, true, false, cond, List, [], ◌∷◌, ◌++◌, leb, ltb, length, take, drop}

-- what a bit is worth that has k bits below it
abbrev pub weight : Bool → ℕ → ℕ
weight b k = cond b (2 ^ k) 0

-- the number that bits spell
unfoldable pub number_of : List Bool → ℕ
number_of [] = 0
number_of (b ∷ bs) = weight b (length bs) + number_of bs

-- the k bits of a number below 2 ^ k
unfoldable pub bits_of : ℕ → ℕ → List Bool
bits_of zero n = []
bits_of (suc k) n = leb (2 ^ k) n ∷ bits_of k (n - weight (leb (2 ^ k) n) k)

-- the smallest width from k on, at most f above k, whose power of two is above n
abbrev pub width_from : ℕ → ℕ → ℕ → ℕ
width_from zero k n = k
width_from (suc f) k n = elim (ltb n (2 ^ k)) [ true ↦ k | false ↦ width_from f (suc k) n ]

-- the smallest k with 2 ^ k above n
unfoldable pub width : ℕ → ℕ
width n = width_from n 0 n

-- the bits of octets
unfoldable pub unpack : List ℕ → List Bool
unpack [] = []
unpack (o ∷ os) = bits_of 8 o ++ unpack os

-- the first n octets of bits
unfoldable pub pack : ℕ → List Bool → List ℕ
pack zero b = []
pack (suc n) b = number_of (take 8 b) ∷ pack n (drop 8 b)
