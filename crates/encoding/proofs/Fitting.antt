-- Every value that a table of octets allows fits 64 bits.
-- Assumes nothing.
use Prim.Native.Nat.{ℕ, ◌+◌, ◌≤◌, ◌<◌, ◌^◌, min}
use mathlib.Core.Bool.{Bool, true, false, cond, and-eq-true_iff}
use mathlib.Core.Path.{◌≡◌}
use mathlib.Core.List.{List, [], ◌∷◌, map}
use native.Mathlib.Omega.{arith}
use lib.Dec.{leb, eqb}
use lib.IntN.{ℤ, pos, negsuc, ◌+ℤ◌, ◌-ℤ◌}
use lib.ListN.{length, length-map}
use lib.Signed.{mag}
use borrow.Author.Tests.{leb-true}
use Rattle.item.proofs.CodeLaws.{true-lt}
use Rattle.octets.specs.Numbers.{u16, u32, u16s, signed, there}
use Rattle.octets.proofs.Numbers.{u16_lt, u32_lt, length-u16s, mag-signed}
use Rattle.item.specs.Code.{Code, number, variable, length_within, index, low_of, allows_offset, of_natural, allows}
use Rattle.item.proofs.Integers.{value-is, mag-add}
use Rattle.row.specs.Rows.{Row, Octets, row_of, row_at}
use Rattle.values.specs.TwosComplement.{Fitting}
use Rattle.values.proofs.Stores.{fitting-cons}
use Rattle.items.specs.Items.{Items, stop, ask, Allows}
use Rattle.encoding.specs.Rows.{asks}
use Rattle.encoding.specs.Demand3.{AreOctets}
use Rattle.encoding.proofs.Every.{Every, Codes, every_items}

-- every value that a code allows fits
abbrev Fits : Code → Type 0
Fits c = (v : ℤ) → allows c v ≡ true → mag v < 2 ^ 63

-- a low of 32 bits, and offsets of 32 bits above it
offsets-fit : (c : Code) → mag (low_of c) ≤ 2147483648 → ((n : ℕ) → allows_offset c n ≡ true → n < 4294967296) → Fits c
offsets-fit c l f v a = go (v -ℤ low_of c) (value-is v (low_of c)) a
  where
    go : (d : ℤ) → v ≡ low_of c +ℤ d → of_natural (allows_offset c) d ≡ true → mag v < 2 ^ 63
    go (pos n) e a = rw e (omega (arith, mag-add (low_of c) n, l, f n a))
    go (negsuc n) e a = let z : ◌≡◌ {A = ℕ} 0 1 = cc in absurd (omega arith)

number_fits : (low : ℤ) (span : ℕ) → mag low ≤ 2147483648 → span < 4294967296 → Fits (number low span)
number_fits low span l h = offsets-fit (number low span) l (λ n a. omega (arith, leb-true n span a))

variable_fits : Fits variable
variable_fits = offsets-fit variable (omega arith) (λ n a. omega (arith, leb-true n 270549119 a))

length_fits : (least most : ℕ) → Fits (length_within least most)
length_fits least most =
    offsets-fit (length_within least most) (omega arith)
    (λ n a. omega (arith, leb-true n (min most 16383) ((and-eq-true_iff (leb least n) (leb n (min most 16383))).0 a).1))

index_fits : (bs : List Bool) → length bs < 4294967296 → Fits (index bs)
index_fits bs h = offsets-fit (index bs) (omega arith) (λ n a. omega (arith, true-lt bs n a))

module _ (t : List ℕ) (octets : AreOctets t) where
  branches-few : (o : ℕ) → length (map there (u16s t (o + 6) 2 (u16 t (o + 4)))) < 4294967296
  branches-few o = rw (length-map, length-u16s t 2 (o + 6) (u16 t (o + 4))) (omega (arith, u16_lt t octets (o + 4)))

  either : (b : Bool) (x y : Row) → Codes Fits x → Codes Fits y → Codes Fits (cond b x y)
  either true x y h k = h
  either false x y h k = k

  octets-fit : (least most : ℕ) → Codes Fits (Octets least most)
  octets-fit least most = (length_fits least most, number_fits (pos 0) 255 (omega arith) (omega arith))

  row_fits : (o : ℕ) → Codes Fits (row_at t o)
  unfolding row_at row_of
  row_fits o =
      let kind = u16 t (o + 2) in
      either (eqb kind 1) _ _ (number_fits (signed (u32 t (o + 4))) (u32 t (o + 8)) (mag-signed (u32 t (o + 4)) (u32_lt t octets (o + 4))) (u32_lt t octets (o + 8)))
      (either (eqb kind 2) _ _ variable_fits
      (either (eqb kind 3) _ _ tt
      (either (eqb kind 4) _ _ (length_fits 0 (u16 t (o + 4)))
      (either (eqb kind 5) _ _ (number_fits (pos 0) 1 (omega arith) (omega arith))
      (either (eqb kind 6) _ _ (index_fits (map there (u16s t (o + 6) 2 (u16 t (o + 4)))) (branches-few o))
      (either (eqb kind 7) _ _ (octets-fit 0 (u16 t (o + 4)))
      (either (eqb kind 8) _ _ (octets-fit 1 (u16 t (o + 4)))
      tt)))))))

  allowed-fit : (p : Items) → Every Fits p → (vs : List ℤ) → Allows p vs → Fitting vs
  allowed-fit stop h [] a = λ i. omega arith
  allowed-fit stop h (v ∷ vs) a = absurd a
  allowed-fit (ask c k) h [] a = absurd a
  allowed-fit (ask c k) h (v ∷ vs) a = fitting-cons v vs (h.0 v a.0) (allowed-fit (k v) (h.1 v) vs a.1)

  pub fitting : (vs : List ℤ) → Allows (asks t) vs → Fitting vs
  unfolding asks
  fitting vs a = allowed-fit (asks t) (every_items Fits t row_fits _) vs a
