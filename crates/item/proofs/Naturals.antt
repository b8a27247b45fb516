-- A signed value as the code holds it, and as a count.
-- Assumes nothing.
use Prim.Native.Nat.{ℕ, ◌<◌, ◌^◌}
use mathlib.Core.Bool.{true, false, true≢false}
use mathlib.Core.Path.{◌≡◌, refl, ap}
use native.Mathlib.Omega.{arith}
use lib.Dec.{T, ltb}
use borrow.Author.Tests.{ltb-true}
use lib.IntN.{ℤ, pos, negsuc, nat_abs}
use lib.Signed.{mag, lt_z, non_neg}
use mir.Syntax.{w64}
use mir.Val.{Fits, to_z, of_z, hbits}
use mir.Facts.{to_z-of_z}
use Rattle.item.specs.Code.{natural}

-- a value that fits 64 bits is what the code holds
pub held : (z : ℤ) → mag z < 2 ^ hbits w64 → to_z w64 (of_z w64 z) ≡ z
held z h = to_z-of_z {w = w64} (record { sfits = h })

-- a negative value counts nothing
pub negative-natural : (z w : ℤ) → w ≡ z → lt_z w (pos 0) ≡ true → 0 ≡ natural z
negative-natural (pos n) w e h = let f : lt_z (pos n) (pos 0) ≡ true = rw e at h in absurd (go n f)
  where
    go : (n : ℕ) → ltb n 0 ≡ true → ⊥
    go n f = omega (arith, ltb-true n 0 f)
negative-natural (negsuc n) w e h = refl

-- another casts to its count
pub natural-cast : (z w : ℤ) → w ≡ z → lt_z w (pos 0) ≡ false → nat_abs w ≡ natural z
natural-cast (pos n) w e h = ap nat_abs e
natural-cast (negsuc n) w e h = absurd (true≢false (rw e at h))

pub natural_fits : (z w : ℤ) → w ≡ z → mag z < 2 ^ hbits w64 → lt_z w (pos 0) ≡ false → T (non_neg w) × Fits w64 (nat_abs w)
natural_fits (pos n) w e m h = rw e (tt, record { fits = omega arith })
natural_fits (negsuc n) w e m h = absurd (true≢false (rw e at h))
