-- What reading a section answers. No contract of a public call cites this file.
use Rattle.std.specs.Prelude.{ℕ, ◌%◌, ◌<◌, ◌≡◌, List, ℤ, Result, Ok, Err}
use Rattle.read_steps.specs.Reads.{State, state_at, Reads, Continues}
use Rattle.lm_items.specs.Asked.{rank, asked}
use Rattle.lm_items.specs.declared.Section.{Section}
use Rattle.answer.specs.declared.Refusal.{Refusal}
use Rattle.read_steps.specs.declared.Cursor.{Cursor}

-- what follows a section, and the cursor behind it; or the refusal
abbrev pub Passed : Type 0
Passed = Result (Section × Cursor) Refusal

-- a section that was read: another follows, with fewer left, from an octet's start on; or the refusal
abbrev pub Passes : Section → List ℕ → ℕ → State → List ℤ → List ℕ → Passed → Type 0
Passes section message room from values packed (Ok (following, to)) =
    Continues message room (asked section) from (asked following) (state_at to values packed) × (rank following < rank section) × (to.place.0 % 8 ≡ 0)
Passes section message room from values packed (Err refusal) = Reads message room (asked section) from values packed (Err refusal)
