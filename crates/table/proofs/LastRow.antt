-- The root of a table that obeys the rules is its last row, and no other.
-- Assumes nothing.
use Prim.Native.Nat.{ℕ, zero, suc, ◌+◌, ◌≤◌}
use mathlib.Core.Bool.{Bool, true, false, cond}
use mathlib.Core.Path.{◌≡◌, refl, sym}
use mathlib.Core.List.{List}
use native.Mathlib.Omega.{arith}
use native.Mathlib.Decide.{ℕ_discrete}
use lib.Dec.{leb}
use lib.ListN.{length}
use borrow.Author.Tests.{leb-true, leb-false}
use Rattle.octets.specs.Numbers.{u16}
use Rattle.rules.specs.Rules.{Reach, here, Starts, Obeys}
use Rattle.table.specs.Root.{root_from, root, IsRoot}
use Rattle.table.proofs.Decides.{reach_le, reach_on, apart, ahead, row-four}

module _ (t : List ℕ) (h : Obeys t) where
  root_from_is : (f o : ℕ) → Starts t o → Reach t o (length t) → length t ≤ o + f → IsRoot t (root_from f t o)
  unfolding root_from
  root_from_is zero o s r m = absurd (omega (arith, s.1))
  root_from_is (suc f) o s r m = go (leb (length t) (o + u16 t o)) refl (root_from_is f (o + u16 t o))
    where
      go : (b : Bool) → leb (length t) (o + u16 t o) ≡ b
          → (Starts t (o + u16 t o) → Reach t (o + u16 t o) (length t) → length t ≤ o + u16 t o + f → IsRoot t (root_from f t (o + u16 t o)))
          → IsRoot t (cond b o (root_from f t (o + u16 t o)))
      go true e ih = record { starts = s; last = omega (arith, leb-true (length t) (o + u16 t o) e, reach_le (ahead r s.1).1) }
      go false e ih =
          ih (reach_on s.0 s.1, leb-false (length t) (o + u16 t o) e) (ahead r s.1).1 (omega (arith, row-four (h.rows o s)))

  -- the definition gives the last row
  pub root_is : IsRoot t (root t)
  unfolding root
  root_is = root_from_is (length t) 0 (here, omega (arith, h.least)) h.filled (omega arith)

  -- there is one last row
  one_root : (o p : ℕ) → IsRoot t o → IsRoot t p → o ≤ p → o ≡ p
  one_root o p a b l = go (ℕ_discrete o p)
    where
      go : Dec (o ≡ p) → o ≡ p
      go (yes e) = e
      go (no n) = absurd (omega (arith, apart a.starts.0 b.starts.0 l n, a.last, b.starts.1))

  -- a last row is the root
  pub is_root : (o : ℕ) → IsRoot t o → o ≡ root t
  is_root o a = go (leb o (root t)) refl
    where
      go : (b : Bool) → leb o (root t) ≡ b → o ≡ root t
      go true e = one_root o (root t) a root_is (leb-true o (root t) e)
      go false e = sym (one_root (root t) o root_is a (omega (arith, leb-false o (root t) e)))
