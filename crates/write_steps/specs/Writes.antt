-- What the steps and the writers of rows are proved against: the spelling of items' specs/Spell.antt, as the code answers it, with
-- what the output then holds.
use Rattle.std.specs.Prelude.{ℕ, suc, ◌+◌, ◌-◌, ◌*◌, ◌≤◌, ◌<◌, ◌≡◌, List, ◌++◌, ℤ, pos, length, get_or, Result, Ok, Err}
use Rattle.bits.specs.Bits.{unpack}
use Rattle.bits.specs.Access.{place_at, overwritten}
use Rattle.answer.specs.Numbers.{wrong_value, refusal_at, reason_number}
use Rattle.answer.specs.declared.Refusal.{Refusal}
use Rattle.item.specs.Answers.{Put}
use Rattle.values.specs.Values.{values_in}
use Rattle.items.specs.Items.{Items}
use Rattle.items.specs.Spell.{Spell, spelled, barred, spell}
use Rattle.write_steps.specs.declared.Cursor.{Cursor}

-- the list of values that two slices hold: those of the first, then those of the octets
abbrev pub list_in : List ℤ → List ℕ → List ℤ
list_in values packed = values ++ values_in packed

-- what writing items gives: the cursor after them; or the refusal, whose place is the index of its value
abbrev pub Step : Type 0
Step = Result Cursor Refusal

abbrev pub cursor_at : ℕ → ℕ → Cursor
cursor_at place index = record { place = place_at place; index = index }

abbrev pub refused_at : ℕ → ℕ → Step
refused_at number index = Err (refusal_at number index)

-- a spelling from a place on as the code answers it
abbrev pub step_of : ℕ → Spell → Step
step_of place (spelled b index) = Ok (cursor_at (place + length b) index)
step_of place (barred refusal) = Err refusal

-- the output that a spelling leaves: its bits in the place of those that stood there; after a refusal anything
abbrev pub Stands : ℕ → Spell → List ℕ → List ℕ → Type 0
Stands place (spelled b index) old new = unpack new ≡ overwritten (unpack old) place b
Stands place (barred refusal) old new = Unit {0}

-- the code's step and the output that it leaves agree with a spelling
pub record Agrees (place : ℕ) (old new : List ℕ) (step : Step) (s : Spell) : Type 0 where
  pub answer : step ≡ step_of place s
  pub output : Stands place s old new

-- where a writer stands, with what the output holds there
pub record State : Type 0 where
  pub cursor : Cursor
  pub output : List ℕ

abbrev pub state_at : Cursor → List ℕ → State
state_at cursor output = record { cursor = cursor; output = output }

-- the spelling of items from a state on: of the values from its index on, with the room behind its place
abbrev pub spell_from : Items → List ℤ → State → Spell
spell_from p list from = spell p list (8 * length from.output - from.cursor.place.0) from.cursor.index

-- writing the items p from a state on, whose place lies in the output or at its end, gives this step and leaves this output
pub record Writes (list : List ℤ) (p : Items) (from : State) (output : List ℕ) (step : Step) : Type 0 where
  pub agrees : from.cursor.place.0 ≤ 8 * length from.output → Agrees from.cursor.place.0 from.output output step (spell_from p list from)

-- writing p from a state on comes to writing q from another: whatever completes q from there completes p
pub record Continues (list : List ℤ) (p : Items) (from : State) (q : Items) (to : State) : Type 0 where
  pub complete : (output : List ℕ) (step : Step) → Writes list q to output step → Writes list p from output step

-- the refusal of a value that is missing
abbrev pub missing_at : ℕ → Refusal
missing_at index = refusal_at wrong_value index

-- the next value of a list and the index after it; or the refusal
abbrev pub Given : Type 0
Given = Result (ℤ × ℕ) Refusal

-- the value at an index of a list and the index after it; or its refusal, where the list ends before it
abbrev pub Gives : List ℤ → ℕ → Given → Type 0
Gives list index (Ok (v, after)) = (index < length list) × (get_or list index (pos 0) ≡ v) × (after ≡ suc index)
Gives list index (Err refusal) = (length list ≤ index) × (refusal ≡ missing_at index)

-- a value that was put moves the cursor on; one that was not is refused at its index
abbrev pub moved_step : Put → ℕ → ℕ → Step
moved_step (Ok place) index after = Ok (record { place = place; index = after })
moved_step (Err reason) index after = refused_at (reason_number reason) index
