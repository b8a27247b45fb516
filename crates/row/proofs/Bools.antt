-- Laws of tests: a choice by a test, two tests together, a number between two bounds.
-- Assumes nothing.
use Prim.Native.Nat.{ℕ, ◌≤◌, ◌<◌}
use mathlib.Core.Bool.{Bool, true, false, cond, ◌&&◌, and-eq-true_iff}
use mathlib.Core.Path.{◌≡◌, refl}
use mathlib.Core.Logic.{◌≢◌}
use lib.Dec.{leb}
use borrow.Author.Tests.{leb-true, le-leb, lt-leb}
use Rattle.row.specs.Rows.{within}

pub cond_same : {A : Type 0} (b : Bool) (x : A) → cond b x x ≡ x
cond_same true x = refl
cond_same false x = refl

-- the second of two was chosen
pub cond-second : {A : Type 0} (b : Bool) (x y : A) → x ≢ y → cond b x y ≡ y → b ≡ false
cond-second true x y n e = absurd (n e)
cond-second false x y n e = refl

pub and-true : (b : Bool) → b && true ≡ b
and-true true = refl
and-true false = refl

pub and-false : (b : Bool) → b && false ≡ false
and-false true = refl
and-false false = refl

module _ (least most n : ℕ) where
  pub within_inside : within least most n ≡ true → (least ≤ n) × (n ≤ most)
  unfolding within
  within_inside h =
      let b = (and-eq-true_iff (leb least n) (leb n most)).0 h in
      (leb-true least n b.0, leb-true n most b.1)

  pub inside_within : least ≤ n → n ≤ most → within least most n ≡ true
  unfolding within
  inside_within a b = rw (le-leb least n a, le-leb n most b)

  pub below_within : n < least → within least most n ≡ false
  unfolding within
  below_within h = rw (lt-leb least n h)

  pub above_within : most < n → within least most n ≡ false
  unfolding within
  above_within h = rw (lt-leb n most h) (and-false (leb least n))
