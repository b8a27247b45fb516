-- What the depth of a row is (document 01, "Row layout": 1 without references, else one more than the deepest row referred to), as
-- an equation for every row that refers to earlier rows alone, as every row does that obeys the rules; how deep it may be plays no
-- part in it. The proof is proofs/Depths.antt.
use Rattle.std.specs.Prelude.{ℕ, suc, ◌≤◌, ◌<◌, ◌≡◌, List, [], ◌∷◌, length, get_or}
use Rattle.row.specs.Rows.{row_at}
use Rattle.rules.specs.Rules.{references, All, Earlier, deepest, depth}

pub record Depths (t : List ℕ) : Type 0 where
  -- one more than the deepest of the rows that it refers to
  pub row : (o : ℕ) → All (Earlier t o) (references (row_at t o)) → depth t o ≡ suc (deepest (depth t) (references (row_at t o)))
  -- of none the deepest is 0; of some it is no less than each of them, and one of them
  pub none : (d : ℕ → ℕ) → deepest d [] ≡ 0
  pub each : (d : ℕ → ℕ) (rs : List ℕ) (i : ℕ) → i < length rs → d (get_or rs i 0) ≤ deepest d rs
  pub one : (d : ℕ → ℕ) (r : ℕ) (rs : List ℕ) → (i : ℕ) × (i < length (r ∷ rs)) × (d (get_or (r ∷ rs) i 0) ≡ deepest d (r ∷ rs))
