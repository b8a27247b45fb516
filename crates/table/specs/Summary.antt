-- What a loaded state keeps of a table beside its octets (document 02, ticket 3): how many rows it has, and the depth of each row start.
-- Both are worked out from the table alone, by going from row to row; nothing here mentions a state or the check. Rows start at even
-- offsets, so that the depth of a row stands at half its offset. What they are under the rules is Summarised; the proof is
-- proofs/Summary.antt.
use Rattle.std.specs.Prelude.{ℕ, zero, suc, ◌+◌, ◌*◌, ◌/◌, ◌%◌, cond, ◌≡◌, List, leb, length, get_or, set, replicate}
use Rattle.octets.specs.Numbers.{u16}
use Rattle.rules.specs.Rules.{Starts, Obeys, depth}

-- the rows from o on, at most f of them
unfoldable pub rows_from : ℕ → List ℕ → ℕ → ℕ
rows_from zero t o = 0
rows_from (suc f) t o = cond (leb (length t) o) 0 (suc (rows_from f t (o + u16 t o)))

-- how many rows a table has
unfoldable pub row_count : List ℕ → ℕ
row_count t = rows_from (length t) t 0

-- the depths of the rows from o on, at most f of them, put into a list
unfoldable pub depths_from : ℕ → List ℕ → ℕ → List ℕ → List ℕ
depths_from zero t o d = d
depths_from (suc f) t o d = cond (leb (length t) o) d (depths_from f t (o + u16 t o) (set d (o / 2) (depth t o)))

-- the depth of each row start at half its offset, and 0 elsewhere
unfoldable pub depths_of : List ℕ → List ℕ
depths_of t = depths_from (length t) t 0 (replicate 2048 0)

pub record Summarised (t : List ℕ) : Type 0 where
  pub size : length (depths_of t) ≡ 2048
  pub even : (o : ℕ) → Starts t o → o % 2 ≡ 0
  -- the depth of a row start, and 0 where no row starts
  pub depths : (o : ℕ) → Starts t o → get_or (depths_of t) (o / 2) 0 ≡ depth t o
  pub elsewhere : (i : ℕ) → (Starts t (2 * i) → ⊥) → get_or (depths_of t) i 0 ≡ 0

-- of every table that obeys the rules
pub record Summaries : Type 0 where
  pub each : (t : List ℕ) → Obeys t → Summarised t
