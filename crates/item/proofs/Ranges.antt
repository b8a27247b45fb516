-- The ranges of values that specs/Ranges.antt states.
use Prim.Native.Nat.{ℕ, ◌+◌, min}
use mathlib.Core.Bool.{Bool, ◌&&◌}
use mathlib.Core.Path.{◌≡◌, refl, sym, ap}
use lib.Dec.{leb}
use lib.IntN.{ℤ, pos, negsuc, ◌+ℤ◌, ◌-ℤ◌, +ℤ_idr}
use lib.Signed.{le_z}
use borrow.Author.Tests.{le-leb}
use native.Mathlib.Omega.{arith}
use Rattle.item.specs.Code.{number, variable, length_within, index, allows_offset, of_natural, allows}
use Rattle.item.specs.Ranges.{ItemRanges}
use Rattle.item.proofs.Integers.{le_more, le_less, le_both, value-is}

number-range : (low v : ℤ) (span : ℕ) → allows (number low span) v ≡ le_z low v && le_z v (low +ℤ pos span)
number-range low v span = go (v -ℤ low) v (value-is v low)
  where
    go : (d w : ℤ) → w ≡ low +ℤ d → of_natural (λ n. leb n span) d ≡ le_z low w && le_z w (low +ℤ pos span)
    go (pos n) w e = rw (e, le_more low n) (sym (le_both low n span))
    go (negsuc n) w e = rw (e, le_less low n)

-- where the offset is the value itself
natural-range : (f : ℕ → Bool) (least most : ℕ) → ((n : ℕ) → f n ≡ leb least n && leb n most) → (v : ℤ)
    → of_natural f (v -ℤ pos 0) ≡ le_z (pos least) v && le_z v (pos most)
natural-range f least most h v = rw (+ℤ_idr v) (go v)
  where
    go : (v : ℤ) → of_natural f v ≡ le_z (pos least) v && le_z v (pos most)
    go (pos n) = h n
    go (negsuc n) = refl

pub item-ranges : ItemRanges
item-ranges = record {
  numbers = number-range;
  variables = λ v. natural-range (allows_offset variable) 0 270549119 (λ n. rw (le-leb 0 n (omega arith))) v;
  lengths = λ least most v. natural-range (allows_offset (length_within least most)) least (min most 16383) (λ n. refl) v;
  indices = λ branches n. ap (of_natural (allows_offset (index branches))) (+ℤ_idr (pos n));
  negative = λ branches n. ap (of_natural (allows_offset (index branches))) (+ℤ_idr (negsuc n));
}
