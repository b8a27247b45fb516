-- A value's distance above low, as the code compares and subtracts.
use Prim.Native.Nat.{ℕ, ◌≤◌, ◌<◌}
use mathlib.Core.Bool.{true, false, not}
use mathlib.Core.Path.{◌≡◌, refl, ◌∙◌}
use native.Mathlib.Omega.{arith}
use lib.Dec.{T, leb}
use lib.IntN.{ℤ, pos, negsuc, ◌+ℤ◌, ◌-ℤ◌, nat_abs}
use lib.Signed.{mag, lt_z, non_neg}
use borrow.Author.Tests.{leb-true, not-true, not-false, le-leb}
use mir.Syntax.{w32, w64}
use mir.Val.{to_z, of_z, Fits, SFits}
use mir.Facts.{to_z-of_z}
use Rattle.item.proofs.Integers.{lt_z-le_z, le_more, le_less, le_both, value-is, low-is, sum_is}
use Rattle.write_item.specs.Steps.{within, distance_of}
use Rattle.std.proofs.Common.{Ok, None}

record Between (value low : ℤ) (span : ℕ) : Type 0 where
  n : ℕ
  apart : value -ℤ low ≡ pos n
  most : n ≤ span

module _ (value low : ℤ) (span : ℕ) where
  below_low : lt_z value low ≡ true → within span (value -ℤ low) ≡ None
  below_low h = go (value -ℤ low) (value-is value low)
    where
      go : (d : ℤ) → value ≡ low +ℤ d → within span d ≡ None
      go (pos n) e = let h' = rw (e, lt_z-le_z (low +ℤ pos n) low, le_more low n) at h in let z : ◌≡◌ {A = ℕ} 0 1 = cc in absurd (omega arith)
      go (negsuc n) e = refl

  above_high : lt_z (low +ℤ pos span) value ≡ true → within span (value -ℤ low) ≡ None
  above_high h = go (value -ℤ low) (value-is value low)
    where
      go : (d : ℤ) → value ≡ low +ℤ d → within span d ≡ None
      go (pos n) e =
          let t : not (leb n span) ≡ true = rw (e, lt_z-le_z (low +ℤ pos span) (low +ℤ pos n), le_both low n span) at h in
          rw (not-true (leb n span) t)
      go (negsuc n) e = refl

  between : lt_z value low ≡ false → lt_z (low +ℤ pos span) value ≡ false → Between value low span
  between l h = go (value -ℤ low) refl (value-is value low)
    where
      go : (d : ℤ) → value -ℤ low ≡ d → value ≡ low +ℤ d → Between value low span
      go (pos n) a e =
          let t : not (leb n span) ≡ false = rw (e, lt_z-le_z (low +ℤ pos span) (low +ℤ pos n), le_both low n span) at h in
          record { n = n; apart = a; most = leb-true n span (not-false (leb n span) t) }
      go (negsuc n) a e =
          let l' = rw (e, lt_z-le_z (low +ℤ negsuc n) low, le_less low n) at l in
          let z : ◌≡◌ {A = ℕ} 0 1 = cc in absurd (omega arith)

  module _ (fits : SFits w64 value) (small : mag low ≤ 2147483648) (word : span < 4294967296) where
    value_kept : to_z w64 (of_z w64 value) ≡ value
    value_kept = to_z-of_z {w = w64} fits

    pub code_below : lt_z (to_z w64 (of_z w64 value)) (to_z w64 (of_z w64 low)) ≡ true → within span (value -ℤ low) ≡ None
    code_below h = below_low (rw (value_kept, low-is low span small word) at h)

    pub code_above : lt_z (to_z w64 (of_z w64 (to_z w64 (of_z w64 low) +ℤ to_z w64 span))) (to_z w64 (of_z w64 value)) ≡ true → within span (value -ℤ low) ≡ None
    code_above h = above_high (rw (value_kept, sum_is low span small word) at h)

    module _ (l : lt_z (to_z w64 (of_z w64 value)) (to_z w64 (of_z w64 low)) ≡ false)
        (h : lt_z (to_z w64 (of_z w64 (to_z w64 (of_z w64 low) +ℤ to_z w64 span))) (to_z w64 (of_z w64 value)) ≡ false) where
      code-between : Between value low span
      code-between = between (rw (value_kept, low-is low span small word) at l) (rw (value_kept, sum_is low span small word) at h)

      pub gap_fits : SFits w64 (to_z w64 (of_z w64 value) -ℤ to_z w64 (of_z w64 low))
      gap_fits = rw (value_kept, low-is low span small word, code-between.apart) (record { sfits = omega (arith, code-between.most) })

      abbrev gap : ℤ
      gap = to_z w64 (of_z w64 (to_z w64 (of_z w64 value) -ℤ to_z w64 (of_z w64 low)))

      gap_is : gap ≡ pos code-between.n
      gap_is = to_z-of_z {w = w64} gap_fits ∙ rw (value_kept, low-is low span small word) code-between.apart

      pub gap-cast : T (non_neg gap) × Fits w32 (nat_abs gap)
      gap-cast = let m = code-between.most in rw gap_is (tt, record { fits = omega arith })

      pub gap_within : Ok (nat_abs gap) ≡ distance_of span (value -ℤ low)
      gap_within = rw (gap_is, code-between.apart, le-leb code-between.n span code-between.most)
