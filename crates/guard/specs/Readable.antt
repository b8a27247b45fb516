-- The rows that one reader reads: those of a table that passed the check, and those of a state of any octets. A slice of rows that is
-- longer than any table is a state. No contract of a public call cites this file.
use Rattle.std.specs.Prelude.{ℕ, ◌≤◌, ◌<◌, Bool, true, false, cond, ◌≡◌, List, leb, length}
use Rattle.row.specs.Rows.{row_at}
use Rattle.row.specs.Fits.{Fits}
use Rattle.rules.specs.Rules.{Obeys, Starts}
use Rattle.items.specs.Items.{Items}
use Rattle.encoding.specs.Rows.{items, behind}
use Rattle.encoding.specs.Guarded.{fits, opens, from, guarded}
use Rattle.parts.specs.Parts.{NoChoice}

-- no longer than a table may be
abbrev pub is_table : List ℕ → Bool
is_table t = leb (length t) 4096

-- what the row at o asks for
unfoldable pub asks_at : List ℕ → ℕ → Items
asks_at t o = cond (is_table t) (items t o) (guarded t o)

-- and the row at r, from the row at o
unfoldable pub asks_from : List ℕ → ℕ → ℕ → Items
asks_from t o r = cond (is_table t) (behind t o r) (from t o (guarded t) r)

-- the row at o can be read: it is a row of a table that obeys the rules, or fits its state
pub record Readable (t : List ℕ) (o : ℕ) : Type 0 where
  pub row : Fits t o
  pub table : length t ≤ 4096 → Obeys t × Starts t o
  pub state : 4096 < length t → (6144 ≤ length t) × (fits t o ≡ true)

-- and so can the rows that it refers to, unless it is a choice
pub record Opened (t : List ℕ) (o : ℕ) : Type 0 where
  pub readable : Readable t o
  pub led : 4096 < length t → opens t o (row_at t o) ≡ true

-- what is known of the rows that a row refers to before it is read: in a state they may be known to be readable, where the row is no
-- choice; under a table nothing is left to test
pub record Tested (known : Bool) (t : List ℕ) (o : ℕ) : Type 0 where
  pub row : known ≡ true → 4096 < length t → NoChoice t o × (opens t o (row_at t o) ≡ true)
  pub state : known ≡ false → 4096 < length t
