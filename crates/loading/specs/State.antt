-- The state that a table is loaded into, 6,160 octets that the caller lends, and reading through it (document 02, ticket 3). It holds
-- the table's octets and zeros after them, 4,096 in all; the depth of each row start, at half its offset, and 0 elsewhere, 2,048 in
-- all; then, little-endian, two octets each, the table's length, its row count and the offset of its root; the outcome of the check,
-- 1 where a table passed and 0 where none is held; and nine zeros. A reader believes this file, table's specs/Summary.antt and
-- encoding's specs/Guarded.antt. Nothing in them mentions the code.
use Rattle.std.specs.Prelude.{ℕ, cond, List, ◌∷◌, ◌++◌, eqb, length, get_or, take, replicate}
use Rattle.octets.specs.Numbers.{u16}
use Rattle.values.specs.Values.{little_endian}
use Rattle.answer.specs.Numbers.{refusal_at, no_table}
use Rattle.table.specs.Verdict.{Verdict, passed, broken, verdict}
use Rattle.table.specs.Root.{root}
use Rattle.table.specs.Summary.{row_count, depths_of}
use Rattle.items.specs.Reading.{ReadOutcome, refuse, read_message}
use Rattle.items.specs.Slices.{filled}
use Rattle.encoding.specs.Guarded.{guarded_root}

-- ── what a state holds ──

-- a state that holds no table
unfoldable pub fresh : List ℕ
fresh = replicate 6160 0

-- the last sixteen octets: a length, a count of rows, a root, and that the check passed
abbrev pub numbers_of : ℕ → ℕ → ℕ → List ℕ
numbers_of size rows root = little_endian 2 size ++ (little_endian 2 rows ++ (little_endian 2 root ++ (1 ∷ replicate 9 0)))

-- a table with depths, a count of rows and a root
unfoldable pub state_with : List ℕ → List ℕ → ℕ → ℕ → List ℕ
state_with t depths rows root = filled 0 4096 t ++ (depths ++ numbers_of (length t) rows root)

-- a table that passed the check: what it holds is worked out from the table alone
unfoldable pub state_of : List ℕ → List ℕ
state_of t = state_with t (depths_of t) (row_count t) (root t)

-- ── and back, of any octets (the depth of a row is held_depth, in encoding's specs/Guarded.antt) ──

unfoldable pub held_length : List ℕ → ℕ
held_length st = u16 st 6144

unfoldable pub held_rows : List ℕ → ℕ
held_rows st = u16 st 6146

unfoldable pub held_root : List ℕ → ℕ
held_root st = u16 st 6148

unfoldable pub held_outcome : List ℕ → ℕ
held_outcome st = get_or st 6150 0

unfoldable pub held_table : List ℕ → List ℕ
held_table st = take (held_length st) st

-- how a state tells the outcome of the check
abbrev pub outcome_of : Verdict → ℕ
outcome_of passed = 1
outcome_of (broken refusal) = 0

-- ── loading and reading ──

abbrev pub loaded_as : Verdict → List ℕ → List ℕ → List ℕ
loaded_as passed st t = state_of t
loaded_as (broken refusal) st t = st

-- the state after a table was lent to be loaded: a table that passes the check replaces all of it, a refused one leaves it as it was
unfoldable pub loaded_by : List ℕ → List ℕ → List ℕ
loaded_by st t = loaded_as (verdict t) st t

-- reading a message through a state, with room for so many values, whatever the state holds. The check is not run: 27 at place 0 where
-- the state says that no table is held, before all others; else 13, then the message by the rows of the state
unfoldable pub through_state : List ℕ → List ℕ → ℕ → ReadOutcome
through_state st s room =
    cond (eqb (held_outcome st) 1) (read_message (guarded_root st (held_root st)) s room) (refuse (refusal_at no_table 0))
