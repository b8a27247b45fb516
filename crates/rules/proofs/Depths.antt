-- The depth of a row is one more than the deepest row that it refers to.
-- Assumes nothing.
use Prim.Native.Nat.{ℕ, zero, suc, ◌≤◌, ◌<◌, max}
use mathlib.Core.Bool.{Bool, true, false}
use mathlib.Core.Path.{◌≡◌, refl, ap, ap₂, ◌∙◌}
use mathlib.Core.List.{List, [], ◌∷◌}
use native.Mathlib.Omega.{arith}
use lib.Dec.{leb}
use lib.ListN.{length, get_or}
use borrow.Author.Tests.{leb-true, leb-false}
use Rattle.row.specs.Offsets.{earlier}
use Rattle.row.specs.Rows.{row_at}
use Rattle.rules.specs.Rules.{references, All, Earlier, deepest, depth}
use Rattle.rules.specs.Depths.{Depths}
use Rattle.row.proofs.Offsets.{earlier_is, by_offset_is}

-- the depth of a row, from what stands before it
pub depth-row : (t : List ℕ) (o : ℕ) → depth t o ≡ suc (deepest (earlier 0 o (depth t)) (references (row_at t o)))
unfolding depth
depth-row t o = by_offset_is 0 (λ o g. suc (deepest g (references (row_at t o)))) o

-- rows before a row have the depths that they have anywhere
earlier-depths : (t : List ℕ) (o : ℕ) (rs : List ℕ) → All (Earlier t o) rs → deepest (earlier 0 o (depth t)) rs ≡ deepest (depth t) rs
earlier-depths t o [] h = refl
earlier-depths t o (r ∷ rs) h = ap₂ max (earlier_is 0 o (depth t) r h.0.1) (earlier-depths t o rs h.1)

no_deeper : (d : ℕ → ℕ) (rs : List ℕ) (i : ℕ) → i < length rs → d (get_or rs i 0) ≤ deepest d rs
no_deeper d [] i h = absurd (omega arith)
no_deeper d (r ∷ rs) zero h = omega arith
no_deeper d (r ∷ rs) (suc i) h = omega (arith, no_deeper d rs i (omega arith))

-- an index of the deepest
record Deepest (d : ℕ → ℕ) (rs : List ℕ) : Type 0 where
  index : ℕ
  within : index < length rs
  is : d (get_or rs index 0) ≡ deepest d rs

some_deepest : (d : ℕ → ℕ) (r : ℕ) (rs : List ℕ) → Deepest d (r ∷ rs)
some_deepest d r [] = record { index = 0; within = omega arith; is = omega arith }
some_deepest d r (q ∷ rs) = go (leb (deepest d (q ∷ rs)) (d r)) refl (some_deepest d q rs)
  where
    go : (b : Bool) → leb (deepest d (q ∷ rs)) (d r) ≡ b → Deepest d (q ∷ rs) → Deepest d (r ∷ q ∷ rs)
    go true e x = record { index = 0; within = omega arith; is = omega (arith, leb-true (deepest d (q ∷ rs)) (d r) e) }
    go false e x = record { index = suc x.index; within = omega (arith, x.within); is = omega (arith, x.is, leb-false (deepest d (q ∷ rs)) (d r) e) }

pub depths : (t : List ℕ) → Depths t
depths t = record {
  row = λ o e. depth-row t o ∙ ap suc (earlier-depths t o (references (row_at t o)) e);
  none = λ d. refl;
  each = no_deeper;
  one = λ d r rs. let x = some_deepest d r rs in (x.index, x.within, x.is);
}
