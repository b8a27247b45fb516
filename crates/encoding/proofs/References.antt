-- What proofs about every row of a table lean on: a row refers to earlier rows alone, and what holds of its references.
-- Assumes nothing.
use Prim.Native.Nat.{ℕ, zero, suc, ◌<◌}
use mathlib.Core.Bool.{Bool, true, false, cond, not}
use mathlib.Core.Path.{◌≡◌, refl, sym, subst}
use mathlib.Core.List.{List, [], ◌∷◌}
use native.Mathlib.Omega.{arith}
use lib.Dec.{eqb}
use lib.ListN.{get_or}
use borrow.Author.Tests.{eqb-true}
use Rattle.octets.specs.Numbers.{there}
use Rattle.rules.specs.Rules.{branches, All, Earlier, Starts}

-- what holds of a row if it holds of every earlier row holds of each
module _ (t : List ℕ) (P : ℕ → Type 0) (step : (o : ℕ) → Starts t o → ((r : ℕ) → Earlier t o r → P r) → P o) where
  up_to : (f o : ℕ) → o < f → Starts t o → P o
  up_to zero o h s = absurd (omega arith)
  up_to (suc f) o h s = step o s (λ r e. up_to f r (omega (arith, e.1)) (e.0, omega (arith, e.1, s.1)))

  pub by_row : (o : ℕ) → Starts t o → P o
  by_row o s = up_to (suc o) o (omega arith) s

module _ {P Q : ℕ → Type 0} where
  pub all_map : ((r : ℕ) → P r → Q r) → (rs : List ℕ) → All P rs → All Q rs
  all_map f [] h = tt
  all_map f (r ∷ rs) h = (f r h.0, all_map f rs h.1)

-- a branch by its index: one that isn't reserved, or what stands for the others
pub all_branches : (P : ℕ → Type 0) (rs : List ℕ) → All P (branches rs) → P 65535 → (i : ℕ) → P (get_or rs i 65535)
unfolding branches there
all_branches P [] h z i = z
all_branches P (r ∷ rs) h z i = go (eqb r 65535) refl h i (all_branches P rs)
  where
    go : (x : Bool) → eqb r 65535 ≡ x → All P (cond (not x) (r ∷ branches rs) (branches rs)) → (i : ℕ)
        → (All P (branches rs) → P 65535 → (i : ℕ) → P (get_or rs i 65535)) → P (get_or (r ∷ rs) i 65535)
    go true e h zero ih = subst P (sym (eqb-true r 65535 e)) z
    go true e h (suc i) ih = ih h z i
    go false e h zero ih = h.0
    go false e h (suc i) ih = ih h.1 z i
