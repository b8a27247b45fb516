-- What "eight octets, little-endian, two's complement" means (document 01, the host's calls), by arithmetic: the definitions of
-- Values.antt are held to it. The proof is proofs/TwosComplement.antt.
use Rattle.std.specs.Prelude.{ℕ, suc, ◌+◌, ◌*◌, ◌/◌, ◌<◌, ◌^◌, ◌≡◌, List, [], ◌∷◌, ◌++◌, ℤ, pos, negsuc, length, get_or, take}
use Rattle.std.specs.Int.Signed.{mag}
use Rattle.values.specs.Values.{little_number, value_octets, list_octets, values_in}

-- every value of a list is from -2 ^ 63 to 2 ^ 63 - 1
abbrev pub Fitting : List ℤ → Type 0
Fitting vs = (i : ℕ) → mag (get_or vs i (pos 0)) < 2 ^ 63

pub record TwosComplement : Type 0 where
  -- a value is eight octets
  pub eight : (v : ℤ) → length (value_octets v) ≡ 8
  pub octets : (v : ℤ) (i : ℕ) → get_or (value_octets v) i 0 < 256
  -- octets spell a number, the lowest first: each counts 256 times as much as the one before it
  pub none : little_number [] ≡ 0
  pub lowest : (o : ℕ) (os : List ℕ) → little_number (o ∷ os) ≡ o + 256 * little_number os
  -- from 0 on a value's octets spell it
  pub natural : (n : ℕ) → n < 2 ^ 63 → little_number (value_octets (pos n)) ≡ n
  -- below 0 they spell what it and 2 ^ 64 add up to: -(n + 1), which is negsuc n, is 2 ^ 64 less n + 1
  pub negative : (n : ℕ) → n < 2 ^ 63 → little_number (value_octets (negsuc n)) + suc n ≡ 2 ^ 64
  -- 1 is the octet 01, then seven of 00
  pub one : value_octets (pos 1) ≡ 0x01 ∷ 0x00 ∷ 0x00 ∷ 0x00 ∷ 0x00 ∷ 0x00 ∷ 0x00 ∷ 0x00 ∷ []
  -- -1 is eight octets FF
  pub minus_one : value_octets (negsuc 0) ≡ 0xff ∷ 0xff ∷ 0xff ∷ 0xff ∷ 0xff ∷ 0xff ∷ 0xff ∷ 0xff ∷ []
  -- a list comes back from its octets; fewer than eight behind them hold no value
  pub back : (vs : List ℤ) → Fitting vs → (rest : List ℕ) → length rest < 8 → values_in (list_octets vs ++ rest) ≡ vs
  -- and any octets, as far as they are whole eights, from the values that they hold
  pub again : (o : List ℕ) → ((i : ℕ) → get_or o i 0 < 256) → list_octets (values_in o) ≡ take (8 * (length o / 8)) o
