-- What counting the strings of a section answers, whatever is asked for behind them.
use Rattle.std.specs.Prelude.{ℕ, ◌%◌, Bool, ◌≡◌, List, ℤ, Result, Ok, Err}
use Rattle.items.specs.Items.{Items, ◌then◌, times}
use Rattle.read_steps.specs.Reads.{State, state_at, Reads, Continues}
use Rattle.lm_items.specs.Asked.{string_items, strings_items}
use Rattle.lm_items.specs.declared.Kind.{Kind}
use Rattle.answer.specs.declared.Refusal.{Refusal}
use Rattle.read_steps.specs.declared.Cursor.{Cursor}

-- how many strings are left to be read; or the refusal
abbrev pub Counted : Type 0
Counted = Result (ℕ × Cursor) Refusal

-- so many strings are left, from an octet's start on; or the count was refused
abbrev pub Counts : Kind → Bool → List ℕ → ℕ → State → List ℤ → List ℕ → Counted → Type 0
Counts kind e message room from values packed (Ok (count, to)) =
    ((q : Items) → Continues message room (strings_items kind e then q) from (times count (string_items kind) then q) (state_at to values packed)) × (to.place.0 % 8 ≡ 0)
Counts kind e message room from values packed (Err refusal) =
    (q : Items) → Reads message room (strings_items kind e then q) from values packed (Err refusal)
