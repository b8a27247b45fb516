-- The laws of recursion over offsets: the meaning at an offset is what the meanings below it make it.
-- Assumes nothing.
use Prim.Native.Nat.{ℕ, zero, suc, ◌<◌, ◌≤◌}
use mathlib.Core.Bool.{Bool, true, false, cond}
use mathlib.Core.Path.{◌≡◌, refl, ap, fun_ext}
use native.Mathlib.Omega.{arith}
use lib.Dec.{ltb}
use borrow.Author.Tests.{ltb-true, lt-ltb, le-ltb}
use Rattle.row.specs.Offsets.{earlier, up_to, by_offset}

pub earlier_is : {A : Type 0} (z : A) (o : ℕ) (g : ℕ → A) (r : ℕ) → r < o → earlier z o g r ≡ g r
unfolding earlier
earlier_is z o g r h = rw (lt-ltb r o h)

pub earlier-out : {A : Type 0} (z : A) (o : ℕ) (g : ℕ → A) (r : ℕ) → o ≤ r → earlier z o g r ≡ z
unfolding earlier
earlier-out z o g r h = rw (le-ltb r o h)

pub earlier_same : {A : Type 0} (z : A) (o : ℕ) (g h : ℕ → A) → ((r : ℕ) → r < o → g r ≡ h r) → earlier z o g ≡ earlier z o h
unfolding earlier
earlier_same {A} z o g h e = fun_ext (λ r. go r (ltb r o) refl)
  where
    go : (r : ℕ) (t : Bool) → ltb r o ≡ t → cond t (g r) z ≡ cond t (h r) z
    go r true q = e r (ltb-true r o q)
    go r false q = refl

module _ {A : Type 0} (z : A) (F : ℕ → (ℕ → A) → A) where
  up_to_same : (f g o : ℕ) → o < f → o < g → up_to z F f o ≡ up_to z F g o
  unfolding up_to
  up_to_same zero g o hf hg = absurd (omega arith)
  up_to_same (suc f) zero o hf hg = absurd (omega arith)
  up_to_same (suc f) (suc g) o hf hg = ap (F o) (earlier_same z o (up_to z F f) (up_to z F g) (λ r l. up_to_same f g r (omega arith) (omega arith)))

  pub by_offset_is : (o : ℕ) → by_offset z F o ≡ F o (earlier z o (by_offset z F))
  unfolding up_to by_offset
  by_offset_is o = ap (F o) (earlier_same z o (up_to z F o) (by_offset z F) (λ r l. up_to_same o (suc r) r l (omega arith)))
