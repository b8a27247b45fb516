-- What document 01 asks of a table, in its words and order: size; rows that fill the table exactly; then for each row, used
-- or not, its kind, its length, its numbers, its references, a branch that isn't reserved, its depth; and the number that document 02
-- gives to each part of a row.
-- A reader believes this file, row's specs/Rows.antt and specs/Offsets.antt, and octets' specs/Numbers.antt. Nothing in them mentions the check.
use Rattle.std.specs.Prelude.{ℕ, suc, ◌+◌, ◌≤◌, ◌<◌, max, Bool, true, false, cond, ◌&&◌, ◌||◌, ◌≡◌, List, [], ◌∷◌, leb, length}
use Rattle.octets.specs.Numbers.{u16, there}
use Rattle.answer.specs.Numbers.{row_past_end, unknown_kind, wrong_row_length, wrong_row_number, wrong_reference, only_reserved, too_deep}
use Rattle.row.specs.Offsets.{by_offset}
use Rattle.row.specs.Rows.{within, Row, Number, Variable, FixedRun, CountedRun, Record, Choice, Octets, Unknown, row_at, row_length}

-- ── rows, one after another ──

-- p is o or the start of a row behind it, if a row starts at o
pub data Reach (t : List ℕ) : ℕ → ℕ → Type 0 where
  here : {o : ℕ} → Reach t o o
  on : {o p : ℕ} → o < length t → Reach t (o + u16 t o) p → Reach t o p

-- p is the first octet of a row
abbrev pub Starts : List ℕ → ℕ → Type 0
Starts t p = Reach t 0 p × (p < length t)

-- ── kinds and numbers ──

unfoldable pub known_kind : Row → Bool
known_kind (Number low span) = true
known_kind Variable = true
known_kind (FixedRun count r) = true
known_kind (CountedRun most r) = true
known_kind (Record rs fs) = true
known_kind (Choice rs) = true
known_kind (Octets least most) = true
known_kind Unknown = false

-- each flag is 0 or 1
unfoldable pub flags_in_bounds : List ℕ → Bool
flags_in_bounds [] = true
flags_in_bounds (f ∷ fs) = leb f 1 && flags_in_bounds fs

unfoldable pub numbers_in_bounds : Row → Bool
numbers_in_bounds (Number low span) = true
numbers_in_bounds Variable = true
numbers_in_bounds (FixedRun count r) = within 1 1024 count
numbers_in_bounds (CountedRun most r) = within 1 16383 most
numbers_in_bounds (Record rs fs) = within 1 32 (length rs) && flags_in_bounds fs
numbers_in_bounds (Choice rs) = within 2 128 (length rs)
numbers_in_bounds (Octets least most) = within least 16383 most
numbers_in_bounds Unknown = true

-- ── references ──

-- the branches that aren't reserved (0xFFFF)
unfoldable pub branches : List ℕ → List ℕ
branches [] = []
branches (r ∷ rs) = cond (there r) (r ∷ branches rs) (branches rs)

-- the references of a row
unfoldable pub references : Row → List ℕ
references (Number low span) = []
references Variable = []
references (FixedRun count r) = r ∷ []
references (CountedRun most r) = r ∷ []
references (Record rs fs) = rs
references (Choice rs) = branches rs
references (Octets least most) = []
references Unknown = []

abbrev pub All : (ℕ → Type 0) → List ℕ → Type 0
All P [] = Unit {0}
All P (x ∷ xs) = P x × All P xs

-- r is the first octet of a row before o
abbrev pub Earlier : List ℕ → ℕ → ℕ → Type 0
Earlier t o r = Reach t 0 r × (r < o)

unfoldable pub some_branch : List ℕ → Bool
some_branch [] = false
some_branch (r ∷ rs) = there r || some_branch rs

-- every choice has a branch that isn't reserved
unfoldable pub has_branch : Row → Bool
has_branch (Number low span) = true
has_branch Variable = true
has_branch (FixedRun count r) = true
has_branch (CountedRun most r) = true
has_branch (Record rs fs) = true
has_branch (Choice rs) = some_branch rs
has_branch (Octets least most) = true
has_branch Unknown = true

-- ── depth ──

abbrev pub deepest : (ℕ → ℕ) → List ℕ → ℕ
deepest d [] = 0
deepest d (r ∷ rs) = max (d r) (deepest d rs)

-- 1 without references, else one more than the deepest row referred to
unfoldable pub depth : List ℕ → ℕ → ℕ
depth t = by_offset 0 (λ o d. suc (deepest d (references (row_at t o))))

-- ── the rules ──

-- the parts of a row that the rules speak of
pub data Part : Type 0 where
  its_end : Part
  its_kind : Part
  its_length : Part
  its_numbers : Part  -- and its flags
  its_references : Part
  its_branch : Part
  its_depth : Part

-- the refusal of each (document 02, ticket 1). A row is tested for its parts in the order of these numbers
abbrev pub part_number : Part → ℕ
part_number its_end = row_past_end
part_number its_kind = unknown_kind
part_number its_length = wrong_row_length
part_number its_numbers = wrong_row_number
part_number its_references = wrong_reference
part_number its_branch = only_reserved
part_number its_depth = too_deep

-- the row at o keeps the rule for a part. The first is that four octets remain for it, and that its length doesn't run past the
-- table; where rows fill the table, each keeps it
abbrev pub Keeps : List ℕ → ℕ → Part → Type 0
Keeps t o its_end = (o + 4 ≤ length t) × (o + u16 t o ≤ length t)
Keeps t o its_kind = known_kind (row_at t o) ≡ true
Keeps t o its_length = u16 t o ≡ row_length (row_at t o)
Keeps t o its_numbers = numbers_in_bounds (row_at t o) ≡ true
Keeps t o its_references = All (Earlier t o) (references (row_at t o))
Keeps t o its_branch = has_branch (row_at t o) ≡ true
Keeps t o its_depth = depth t o ≤ 32

-- the row at o
pub record RowObeys (t : List ℕ) (o : ℕ) : Type 0 where
  pub kind_known : Keeps t o its_kind
  pub length_right : Keeps t o its_length
  pub numbers_right : Keeps t o its_numbers
  pub references_earlier : Keeps t o its_references
  pub branch_there : Keeps t o its_branch
  pub depth_within : Keeps t o its_depth

-- a table obeys the rules
pub record Obeys (t : List ℕ) : Type 0 where
  pub least : 4 ≤ length t
  pub most : length t ≤ 4096
  pub filled : Reach t 0 (length t)
  pub rows : (o : ℕ) → Starts t o → RowObeys t o
