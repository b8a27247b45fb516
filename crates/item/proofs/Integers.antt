-- Laws of signed numbers: the order under a shift, and low with an offset added.
use Prim.Native.Nat.{ℕ, suc, ◌+◌, ◌-◌, ◌≤◌, ◌<◌}
use mathlib.Core.Bool.{Bool, true, false, cond, not}
use mathlib.Core.Path.{◌≡◌, refl, sym, ap, ◌∙◌}
use native.Mathlib.Omega.{arith}
use lib.Dec.{leb, ltb}
use lib.IntN.{ℤ, pos, negsuc, ◌+ℤ◌, ◌-ℤ◌, +ℤ_comm, -ℤ-+ℤ_cancel}
use lib.Signed.{mag, lt_z, le_z}
use borrow.Author.Tests.{leb-true, leb-false, ltb-true, ltb-false, le-leb, lt-leb}
use mir.Syntax.{w64}
use mir.Val.{to_z, of_z, SFits}
use mir.Facts.{to_z-of_z, to_z_pos}

-- ── the order ──

leb_same : (a b c d : ℕ) → (a ≤ b → c ≤ d) → (b < a → d < c) → leb a b ≡ leb c d
leb_same a b c d f g = go (leb a b) refl
  where
    go : (t : Bool) → leb a b ≡ t → leb a b ≡ leb c d
    go true e = e ∙ sym (le-leb c d (f (leb-true a b e)))
    go false e = e ∙ sym (lt-leb c d (g (leb-false a b e)))

ltb-leb : (a b : ℕ) → ltb a b ≡ not (leb b a)
ltb-leb a b = go (ltb a b) refl
  where
    go : (t : Bool) → ltb a b ≡ t → ltb a b ≡ not (leb b a)
    go true e = e ∙ sym (ap not (lt-leb b a (ltb-true a b e)))
    go false e = e ∙ sym (ap not (le-leb b a (ltb-false a b e)))

pub lt_z-le_z : (a b : ℤ) → lt_z a b ≡ not (le_z b a)
lt_z-le_z (pos a) (pos b) = ltb-leb a b
lt_z-le_z (pos a) (negsuc b) = refl
lt_z-le_z (negsuc a) (pos b) = refl
lt_z-le_z (negsuc a) (negsuc b) = ltb-leb b a

-- a number and a natural number more
pub le_more : (l : ℤ) (n : ℕ) → le_z l (l +ℤ pos n) ≡ true
le_more (pos a) n = le-leb a (a + n) (omega arith)
le_more (negsuc a) n = go (ltb n (suc a)) refl
  where
    go : (t : Bool) → ltb n (suc a) ≡ t → le_z (negsuc a) (cond t (negsuc (suc a - suc n)) (pos (n - suc a))) ≡ true
    go true e = le-leb (suc a - suc n) a (omega arith)
    go false e = refl

-- a number and one less
pub le_less : (l : ℤ) (n : ℕ) → le_z l (l +ℤ negsuc n) ≡ false
le_less (pos a) n = go (ltb a (suc n)) refl
  where
    go : (t : Bool) → ltb a (suc n) ≡ t → le_z (pos a) (cond t (negsuc (suc n - suc a)) (pos (a - suc n))) ≡ false
    go true e = refl
    go false e = let b = ltb-false a (suc n) e in lt-leb a (a - suc n) (omega arith)
le_less (negsuc a) n = lt-leb (suc (a + n)) a (omega arith)

-- two natural numbers above a number
pub le_both : (l : ℤ) (n s : ℕ) → le_z (l +ℤ pos n) (l +ℤ pos s) ≡ leb n s
le_both (pos a) n s = leb_same (a + n) (a + s) n s (omega arith) (omega arith)
le_both (negsuc a) n s = go (ltb n (suc a)) refl (ltb s (suc a)) refl
  where
    go : (t : Bool) → ltb n (suc a) ≡ t → (u : Bool) → ltb s (suc a) ≡ u
        → le_z (cond t (negsuc (suc a - suc n)) (pos (n - suc a))) (cond u (negsuc (suc a - suc s)) (pos (s - suc a))) ≡ leb n s
    go true e true q =
        let x = ltb-true n (suc a) e in let y = ltb-true s (suc a) q in
        leb_same (suc a - suc s) (suc a - suc n) n s (omega arith) (omega arith)
    go true e false q = let x = ltb-true n (suc a) e in let y = ltb-false s (suc a) q in sym (le-leb n s (omega arith))
    go false e true q = let x = ltb-false n (suc a) e in let y = ltb-true s (suc a) q in sym (lt-leb n s (omega arith))
    go false e false q =
        let x = ltb-false n (suc a) e in let y = ltb-false s (suc a) q in
        leb_same (n - suc a) (s - suc a) n s (omega arith) (omega arith)

-- a value is low and its distance above it
pub value-is : (v low : ℤ) → v ≡ low +ℤ (v -ℤ low)
value-is v low = sym (-ℤ-+ℤ_cancel v low) ∙ +ℤ_comm (v -ℤ low) low

-- ── low and an offset, as the code adds them ──

pub mag-add : (l : ℤ) (n : ℕ) → mag (l +ℤ pos n) ≤ mag l + n
mag-add (pos a) n = omega arith
mag-add (negsuc a) n = go (ltb n (suc a)) refl
  where
    go : (t : Bool) → ltb n (suc a) ≡ t → mag (cond t (negsuc (suc a - suc n)) (pos (n - suc a))) ≤ a + n
    go true e = omega arith
    go false e = omega arith

module _ (low : ℤ) (n : ℕ) (small : mag low ≤ 2147483648) (word : n < 4294967296) where
  pub low-is : to_z w64 (of_z w64 low) ≡ low
  low-is = to_z-of_z {w = w64} (record { sfits = omega arith })

  pub sum_fits : SFits w64 (to_z w64 (of_z w64 low) +ℤ to_z w64 n)
  sum_fits = rw (low-is, to_z_pos w64 {n = n} (omega arith)) (record { sfits = omega (arith, mag-add low n) })

  pub sum_is : to_z w64 (of_z w64 (to_z w64 (of_z w64 low) +ℤ to_z w64 n)) ≡ low +ℤ pos n
  sum_is = to_z-of_z {w = w64} sum_fits ∙ rw (low-is, to_z_pos w64 {n = n} (omega arith))
