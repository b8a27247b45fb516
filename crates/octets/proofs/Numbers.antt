-- Laws of the numbers that stand in octets: how large each can be, and what a row of them holds.
use Prim.Native.Nat.{ℕ, zero, suc, ◌+◌, ◌-◌, ◌*◌, ◌≤◌, ◌<◌}
use mathlib.Core.Bool.{Bool, true, false, cond}
use mathlib.Core.Path.{◌≡◌, refl, ap, ◌∙◌}
use mathlib.Core.List.{List}
use native.Mathlib.Omega.{arith}
use lib.Dec.{ltb}
use lib.IntN.{ℤ, pos, negsuc}
use lib.ListN.{length, get_or}
use lib.Signed.{mag}
use mir.Syntax.{w32}
use mir.Val.{to_z, sel}
use borrow.Author.Tests.{ltb-true, ltb-false}
use Rattle.octets.specs.Numbers.{u16, u32, u16s, signed}

module _ (t : List ℕ) (octets : (i : ℕ) → get_or t i 0 < 256) where
  pub u16_lt : (o : ℕ) → u16 t o < 65536
  unfolding u16
  u16_lt o = omega (arith, octets o, octets (o + 1))

  pub u32_lt : (o : ℕ) → u32 t o < 4294967296
  unfolding u32
  u32_lt o = omega (arith, u16_lt o, u16_lt (o + 2))

module _ (t : List ℕ) (step : ℕ) where
  pub length-u16s : (o n : ℕ) → length (u16s t o step n) ≡ n
  unfolding u16s
  length-u16s o zero = refl
  length-u16s o (suc n) = ap suc (length-u16s (o + step) n)

  -- the number at an index stands that many steps after the first
  pub get_d_u16s : (o n i d : ℕ) → i < n → get_or (u16s t o step n) i d ≡ u16 t (o + step * i)
  unfolding u16s
  get_d_u16s o zero i d h = absurd (omega arith)
  get_d_u16s o (suc n) zero d h =
      let e : o ≡ o + step * 0 = omega arith in
      ap (u16 t) e
  get_d_u16s o (suc n) (suc i) d h =
      let e : o + step + step * i ≡ o + step * suc i = omega arith in
      get_d_u16s (o + step) n i d (omega arith) ∙ ap (u16 t) e

either_mag : (b : Bool) (n m k : ℕ) → (b ≡ true → n ≤ k) → (b ≡ false → m ≤ k) → mag (cond b (pos n) (negsuc m)) ≤ k
either_mag true n m k h1 h2 = h1 refl
either_mag false n m k h1 h2 = h2 refl

-- a number of 32 bits read as signed is no larger than 2 ^ 31, on either side of 0
pub mag-signed : (n : ℕ) → n < 4294967296 → mag (signed n) ≤ 2147483648
unfolding signed
mag-signed n h =
    either_mag (ltb n 2147483648) n (4294967295 - n) 2147483648
    (λ e. omega (arith, ltb-true n 2147483648 e))
    (λ e. omega (arith, ltb-false n 2147483648 e))

-- it is what the machine reads
pub to_z-signed : (n : ℕ) → to_z w32 n ≡ signed n
unfolding signed
to_z-signed n =
    let e : 4294967296 - suc n ≡ 4294967295 - n = omega arith in
    either (ltb n 2147483648) (pos n) (negsuc (4294967296 - suc n)) (negsuc (4294967295 - n)) (ap negsuc e)
  where
    either : (b : Bool) (x y z : ℤ) → y ≡ z → sel b x y ≡ cond b x z
    either true x y z e = refl
    either false x y z e = e
