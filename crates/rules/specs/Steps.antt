-- What the steps of a row's test answer, from the definitions of Rules.antt and Tests.antt.
use Rattle.std.specs.Prelude.{ℕ, ◌+◌, ◌≤◌, max, Bool, true, cond, ◌≡◌, List, [], ◌∷◌, length, Result, Ok, Err, Option, Some, None}
use Rattle.octets.specs.Numbers.{u16}
use Rattle.row.specs.Rows.{within}
use Rattle.answer.specs.declared.Reason.{Reason}
use Rattle.answer.specs.declared.Reason.TheVariants.{RowPastEnd, UnknownKind, WrongRowLength, WrongRowNumber, WrongReference, OnlyReserved, TooDeep}
use Rattle.rules.specs.Rules.{branches, deepest, Part, its_end, its_kind, its_length, its_numbers, its_references, its_branch, its_depth}
use Rattle.rules.specs.Tests.{depth_in, all_passed, row_depth, RowVerdict, sound, faulty, row_verdict}

-- the depth of each row at its offset, from those that stand at half the offsets: every row starts at an even one
unfoldable pub spread : List ℕ → List ℕ
spread [] = []
spread (x ∷ xs) = x ∷ 0 ∷ spread xs

-- the row at o has that length, which ends inside the table, and that kind, which is known
pub record Headed (t : List ℕ) (o l k : ℕ) : Type 0 where
  pub room : o + 4 ≤ length t
  pub inside : o + l ≤ length t
  pub length_is : l ≡ u16 t o
  pub kind_is : k ≡ u16 t (o + 2)
  pub known : within 1 8 k ≡ true

-- what the test of a row finds: its length and its depth; or the reason of the first part that breaks a rule
abbrev pub RowTest : Type 0
RowTest = Result (ℕ × ℕ) Reason

-- the depth of the deepest row referred to; or that a reference is to no row passed
abbrev pub Below : Type 0
Below = Option ℕ

-- references without those of reserved branches, if there may be any
unfoldable pub kept : Bool → List ℕ → List ℕ
kept reserved rs = cond reserved (branches rs) rs

-- the deepest of a depth and the rows referred to, if all have passed
unfoldable pub deepest_from : List ℕ → ℕ → List ℕ → Below
deepest_from d depth rs = cond (all_passed d rs) (Some (max depth (deepest (depth_in d) rs))) None

-- the reason that the code gives for a part
abbrev pub part_reason : Part → Reason
part_reason its_end = RowPastEnd
part_reason its_kind = UnknownKind
part_reason its_length = WrongRowLength
part_reason its_numbers = WrongRowNumber
part_reason its_references = WrongReference
part_reason its_branch = OnlyReserved
part_reason its_depth = TooDeep

-- a row's verdict as its test tells it: its length and its depth, or the reason
abbrev pub told_as : RowVerdict → ℕ → ℕ → RowTest
told_as sound l x = Ok (l, x)
told_as (faulty part) l x = Err (part_reason part)

-- the row at o against every rule
unfoldable pub row_tested : List ℕ → ℕ → List ℕ → RowTest
row_tested t o d = told_as (row_verdict t o d) (u16 t o) (row_depth t o d)
