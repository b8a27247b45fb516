-- The octets of values are their two's complement, and each comes back from the other.
-- Assumes nothing.
use Prim.Native.Nat.{ℕ, zero, suc, ◌+◌, ◌*◌, ◌/◌, ◌≤◌, ◌<◌, ◌^◌}
use mathlib.Core.Path.{◌≡◌, refl, sym, ap, ap₂, ◌∙◌}
use mathlib.Core.List.{List, [], ◌∷◌, ◌++◌, append-nil}
use native.Mathlib.Omega.{arith}
use lib.IntN.{ℤ, pos, negsuc}
use lib.ListN.{length, get_or, take, drop, length-drop}
use lib.Seq.{length-take-le, take-add, get_or-drop}
use Rattle.values.specs.Values.{complement, uncomplement, little_endian, little_number, value_octets, list_octets, values_from, values_in}
use Rattle.values.specs.TwosComplement.{TwosComplement}
use Rattle.values.proofs.Complement.{complement-uncomplement}
use Rattle.values.proofs.LittleEndian.{little_endian_lt, little_number-little_endian, little_number_lt, little_endian-little_number}
use Rattle.values.proofs.Stores.{length-value_octets, values_in-list_octets}

spelled : (v : ℤ) → complement v < 2 ^ 64 → little_number (value_octets v) ≡ complement v
unfolding value_octets
spelled v h = little_number-little_endian 8 (complement v) h

-- fewer than eight octets hold no value
none_in : (o : List ℕ) → length o < 8 → values_in o ≡ []
unfolding values_in values_from
none_in o h = let e : length o / 8 ≡ 0 = omega arith in rw e

taken-octets : (n : ℕ) (o : List ℕ) → ((i : ℕ) → get_or o i 0 < 256) → (i : ℕ) → get_or (take n o) i 0 < 256
taken-octets zero o f i = omega arith
taken-octets (suc n) [] f i = omega arith
taken-octets (suc n) (x ∷ o) f zero = f 0
taken-octets (suc n) (x ∷ o) f (suc i) = taken-octets n o (λ j. f (suc j)) i

dropped-octets : (n : ℕ) (o : List ℕ) → ((i : ℕ) → get_or o i 0 < 256) → (i : ℕ) → get_or (drop n o) i 0 < 256
dropped-octets n o f i = rw get_or-drop (f (n + i))

-- eight octets are those of the value that they hold
eight-again : (o : List ℕ) → length o ≡ 8 → ((i : ℕ) → get_or o i 0 < 256) → value_octets (uncomplement (little_number o)) ≡ o
unfolding value_octets
eight-again o l f =
    let below : little_number o < 2 ^ 64 = let b = little_number_lt o f in rw l at b in
    ap (λ (n : ℕ). little_endian 8 n) (complement-uncomplement (little_number o) below)
    ∙ ap (λ (k : ℕ). little_endian k (little_number o)) (sym l)
    ∙ little_endian-little_number o f

-- so many eights of octets are those of the values that they hold
eights_again : (n : ℕ) (o : List ℕ) → 8 * n ≤ length o → ((i : ℕ) → get_or o i 0 < 256) → list_octets (values_from n o) ≡ take (8 * n) o
unfolding list_octets values_from
eights_again zero o h f = refl
eights_again (suc n) o h f =
    let e : 8 * suc n ≡ 8 + 8 * n = omega arith in
    ap₂ ◌++◌ (eight-again (take 8 o) (length-take-le 8 o (omega arith)) (taken-octets 8 o f)) (eights_again n (drop 8 o) (rw length-drop (omega arith)) (dropped-octets 8 o f))
    ∙ sym (take-add 8 (8 * n) o) ∙ ap (λ (k : ℕ). take k o) (sym e)

pub twos-complement : TwosComplement
unfolding value_octets values_in
twos-complement = record {
  eight = length-value_octets;
  octets = λ v i. little_endian_lt 8 (complement v) i;
  none = refl;
  lowest = λ o os. refl;
  natural = λ n h. spelled (pos n) (omega arith);
  negative = λ n h. let e = spelled (negsuc n) (omega arith) in omega (arith, e);
  one = refl;
  minus_one = refl;
  back = λ vs f rest h. values_in-list_octets vs rest f ∙ ap (λ (r : List ℤ). vs ++ r) (none_in rest h) ∙ append-nil vs;
  again = λ o f. eights_again (length o / 8) o (omega arith) f;
}
