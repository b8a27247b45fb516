-- Any sequence of loads and reads (document 02, ticket 3: "After any sequence of loads and reads from a fresh state the stored numbers
-- equal those worked out afresh from the stored octets, and reading through the state .. equals reading with the table in hand"). The
-- proof is proofs/Sequence.antt.
use Rattle.std.specs.Prelude.{ℕ, ◌+◌, ◌*◌, ◌≤◌, ◌<◌, true, ◌≡◌, ◌≢◌, ◌⊎◌, List, [], ◌∷◌, ◌++◌, length, get_or}
use Rattle.answer.specs.Numbers.{refusal_at, no_table}
use Rattle.rules.specs.Rules.{Starts, Obeys, depth}
use Rattle.table.specs.Verdict.{Verdict, passed, broken, verdict}
use Rattle.table.specs.Root.{root}
use Rattle.table.specs.Summary.{row_count}
use Rattle.items.specs.Reading.{refuse}
use Rattle.items.specs.Numbered.{of_reading}
use Rattle.encoding.specs.Reading.{read_outcome}
use Rattle.encoding.specs.Guarded.{held_depth}
use Rattle.loading.specs.State.{fresh, state_of, held_length, held_rows, held_root, held_outcome, held_table, outcome_of, loaded_by, through_state}

-- ── sequences ──

-- a call on a state: a table is lent to be loaded; or a message is read, with room for so many values
pub data Call : Type 0 where
  load : List ℕ → Call
  read : List ℕ → ℕ → Call

-- the state after a call. Reading doesn't change it
abbrev pub after_call : List ℕ → Call → List ℕ
after_call st (load t) = loaded_by st t
after_call st (read s room) = st

-- the state after calls in order
abbrev pub after : List ℕ → List Call → List ℕ
after st [] = st
after st (c ∷ calls) = after (after_call st c) calls

-- a table, or none
pub data Last : Type 0 where
  none : Last
  last : List ℕ → Last

-- a later table counts before an earlier one, and one that the check refuses doesn't count
abbrev pub later_or : Last → Last → Last
later_or (last t) earlier = last t
later_or none earlier = earlier

abbrev pub if_passed : Verdict → List ℕ → Last
if_passed passed t = last t
if_passed (broken refusal) t = none

-- the last table that was loaded
abbrev pub last_loaded : List Call → Last
last_loaded [] = none
last_loaded (load t ∷ calls) = later_or (last_loaded calls) (if_passed (verdict t) t)
last_loaded (read s room ∷ calls) = last_loaded calls

-- ── what holds after them ──

-- the stored numbers equal those worked out afresh from the stored octets
pub record Afresh (st : List ℕ) : Type 0 where
  pub size : length st ≡ 6160
  -- the outcome of the check
  pub outcome : held_outcome st ≡ outcome_of (verdict (held_table st))
  -- the length, the row count and the root
  pub octets : held_length st ≡ length (held_table st)
  pub rows : held_rows st ≡ row_count (held_table st)
  pub root_row : held_root st ≡ root (held_table st)
  -- the depth of every row start, and 0 at every other half offset
  pub depths : (o : ℕ) → Starts (held_table st) o → held_depth st o ≡ depth (held_table st) o
  pub elsewhere : (i : ℕ) → i < 2048 → (Starts (held_table st) (2 * i) → ⊥) → get_or st (4096 + i) 0 ≡ 0
  -- nothing is left of a longer table that was there before
  pub behind : (i : ℕ) → length (held_table st) ≤ i → i < 4096 → get_or st i 0 ≡ 0

-- a state that holds a table: its octets, and that it passed the check; and reading through the state, which doesn't run the check
-- again, equals reading with the table in hand
pub record Loaded (st t : List ℕ) : Type 0 where
  pub octets : held_table st ≡ t
  pub obeys : Obeys t
  pub passes : held_outcome st ≡ 1
  pub reads : (s : List ℕ) (room : ℕ) → through_state st s room ≡ read_outcome t s room

-- a state that holds none: it is fresh, and reading through it is 27 at place 0
pub record NoTable (st : List ℕ) : Type 0 where
  pub is : st ≡ fresh
  pub reads : (s : List ℕ) (room : ℕ) → through_state st s room ≡ refuse (refusal_at no_table 0)

-- after any sequence of loads and reads from a fresh state
pub record AfterCalls (calls : List Call) : Type 0 where
  pub afresh : Afresh (after fresh calls)
  -- before the first table that the check passes, the state holds none; after it, the last such table
  pub before : last_loaded calls ≡ none → NoTable (after fresh calls)
  pub loaded : (t : List ℕ) → last_loaded calls ≡ last t → Loaded (after fresh calls) t
  -- one call more: a table that obeys the rules replaces all of it; any other, and a read, leaves it as it was
  pub replaced : (t : List ℕ) → Obeys t → after fresh (calls ++ (load t ∷ [])) ≡ state_of t
  pub refused : (t : List ℕ) → (Obeys t → ⊥) → after fresh (calls ++ (load t ∷ [])) ≡ after fresh calls
  pub kept : (s : List ℕ) (room : ℕ) → after fresh (calls ++ (read s room ∷ [])) ≡ after fresh calls

pub record Sequences : Type 0 where
  pub each : (calls : List Call) → AfterCalls calls

-- ── a state made otherwise ──

-- any octets whatever, of which only demand 1 holds: where they don't say that a table passed, reading is 27 at place 0, before all
-- others; and any other refusal has a number of reading
pub record AnyState (st : List ℕ) : Type 0 where
  pub no_table_first : held_outcome st ≢ 1 → (s : List ℕ) (room : ℕ) → through_state st s room ≡ refuse (refusal_at no_table 0)
  pub numbered : (s : List ℕ) (room number place : ℕ) → through_state st s room ≡ refuse (refusal_at number place)
      → ((number ≡ no_table) × (place ≡ 0)) ⊎ (of_reading number ≡ true)

pub record AnyStates : Type 0 where
  pub each : (st : List ℕ) → AnyState st
