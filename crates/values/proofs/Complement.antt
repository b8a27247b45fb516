-- Laws of two's complement on 64 bits: it is the machine's own, and what -1 less a number is.
use Prim.Native.Nat.{ℕ, suc, ◌-◌, ◌<◌, ◌^◌}
use mathlib.Core.Path.{◌≡◌, refl, ap, ◌∙◌}
use mathlib.Core.Bool.{Bool, true, false, cond}
use native.Mathlib.Omega.{arith}
use borrow.Author.Tests.{ltb-true, le-ltb}
use lib.Dec.{ltb}
use lib.IntN.{ℤ, pos, negsuc, ◌-ℤ◌}
use lib.Signed.{mag, lt_z}
use mir.Syntax.{w64}
use mir.Val.{SFits, to_z, of_z, sel}
use mir.Facts.{to_z-of_z, Fits-of_z}
use Rattle.values.specs.Values.{complement, uncomplement}

pub complement-of_z : (v : ℤ) → complement v ≡ of_z w64 v
complement-of_z (pos n) = refl
complement-of_z (negsuc n) = omega arith

pub uncomplement-to_z : (n : ℕ) → uncomplement n ≡ to_z w64 n
uncomplement-to_z n =
    let e : 18446744073709551615 - n ≡ 18446744073709551616 - suc n = omega arith in
    either (ltb n (2 ^ 63)) (pos n) (negsuc (18446744073709551615 - n)) (negsuc (18446744073709551616 - suc n)) (ap negsuc e)
  where
    either : (b : Bool) (x y z : ℤ) → y ≡ z → cond b x y ≡ sel b x z
    either true x y z e = refl
    either false x y z e = e

pub complement_lt : (v : ℤ) → mag v < 2 ^ 63 → complement v < 2 ^ 64
complement_lt v h = rw (complement-of_z v) (Fits-of_z {w = w64} {z = v} (record { sfits = h })).fits

-- a value that fits 64 bits comes back
pub uncomplement-complement : (v : ℤ) → mag v < 2 ^ 63 → uncomplement (complement v) ≡ v
uncomplement-complement v h =
    uncomplement-to_z (complement v) ∙ ap (to_z w64) (complement-of_z v) ∙ to_z-of_z {w = w64} {z = v} (record { sfits = h })

-- and so does a number of 64 bits
pub complement-uncomplement : (n : ℕ) → n < 2 ^ 64 → complement (uncomplement n) ≡ n
complement-uncomplement n h = go (ltb n (2 ^ 63))
  where
    go : (b : Bool) → complement (cond b (pos n) (negsuc (2 ^ 64 - 1 - n))) ≡ n
    go true = refl
    go false = omega arith

-- -1 less a number has the other sign and the same magnitude
minus_one_less_negsuc : (n : ℕ) → negsuc 0 -ℤ negsuc n ≡ pos n
minus_one_less_negsuc n =
    let e : suc n - 1 ≡ n = omega arith in
    rw (le-ltb (suc n) 1 (omega arith)) (ap pos e)

-- -1 less what a signed variable of the machine holds
abbrev pub mirrored : ℤ → ℤ
mirrored v = negsuc 0 -ℤ to_z w64 (of_z w64 v)

apart : true ≡ false → ⊥
apart e = let z : ◌≡◌ {A = ℕ} 0 1 = cc in omega arith

-- what the machine finds of a value below 0
pub record Negative (v : ℤ) : Type 0 where
  pub size : ℕ
  pub small : size < 2 ^ 63
  pub is : v ≡ negsuc size
  pub fit : SFits w64 (mirrored v)
  pub mirror : to_z w64 (of_z w64 (mirrored v)) ≡ pos size

pub negative : (v : ℤ) → SFits w64 v → lt_z (to_z w64 (of_z w64 v)) (pos 0) ≡ true → Negative v
negative (pos n) f l = absurd (omega (arith, ltb-true n 0 (rw (to_z-of_z {w = w64} f) at l)))
negative (negsuc n) f l =
    let e : mirrored (negsuc n) ≡ pos n = rw (to_z-of_z {w = w64} f) (minus_one_less_negsuc n) in
    let g : SFits w64 (mirrored (negsuc n)) = rw e (record { sfits = f.sfits }) in
    record { size = n; small = f.sfits; is = refl; fit = g; mirror = to_z-of_z {w = w64} g ∙ e }

-- and of any other
pub record Positive (v : ℤ) : Type 0 where
  pub size : ℕ
  pub small : size < 2 ^ 63
  pub is : v ≡ pos size
  pub held : to_z w64 (of_z w64 v) ≡ pos size

pub positive : (v : ℤ) → SFits w64 v → lt_z (to_z w64 (of_z w64 v)) (pos 0) ≡ false → Positive v
positive (pos n) f l = record { size = n; small = f.sfits; is = refl; held = to_z-of_z {w = w64} f }
positive (negsuc n) f l = absurd (apart (rw (to_z-of_z {w = w64} f) at l))
