-- The test of one row against the rules, part by part, where the depths of the rows before it are known. A reader need not
-- believe it: what it comes to over a table is Checks (table's specs/Checks.antt).
use Rattle.std.specs.Prelude.{ℕ, suc, ◌+◌, Bool, true, false, not, ◌&&◌, List, [], ◌∷◌, leb, eqb, length, get_or}
use Rattle.octets.specs.Numbers.{u16}
use Rattle.row.specs.Rows.{row_at, row_length}
use Rattle.rules.specs.Rules.{known_kind, numbers_in_bounds, references, has_branch, deepest, Part, its_end, its_kind, its_length, its_numbers, its_references, its_branch, its_depth}

-- d holds the depth of each row passed so far, at its offset, and 0 elsewhere
abbrev pub depth_in : List ℕ → ℕ → ℕ
depth_in d r = get_or d r 0

abbrev pub all_passed : List ℕ → List ℕ → Bool
all_passed d [] = true
all_passed d (r ∷ rs) = not (eqb (depth_in d r) 0) && all_passed d rs

unfoldable pub row_depth : List ℕ → ℕ → List ℕ → ℕ
row_depth t o d = suc (deepest (depth_in d) (references (row_at t o)))

-- a row keeps every rule, or a part of it is the first that breaks one
pub data RowVerdict : Type 0 where
  sound : RowVerdict
  faulty : Part → RowVerdict

abbrev pub demand : Bool → Part → RowVerdict → RowVerdict
demand true part v = v
demand false part v = faulty part

-- the row at o against the rules, part by part
unfoldable pub row_verdict : List ℕ → ℕ → List ℕ → RowVerdict
row_verdict t o d =
    demand (leb (o + 4) (length t) && leb (o + u16 t o) (length t)) its_end
    (demand (known_kind (row_at t o)) its_kind
    (demand (eqb (u16 t o) (row_length (row_at t o))) its_length
    (demand (numbers_in_bounds (row_at t o)) its_numbers
    (demand (all_passed d (references (row_at t o))) its_references
    (demand (has_branch (row_at t o)) its_branch
    (demand (leb (row_depth t o d) 32) its_depth
    sound))))))
