-- What the steps and the readers of rows are proved against: the walk of items' specs/Walk.antt, as the code answers it, with what
-- the two lent slices then hold.
use Rattle.std.specs.Prelude.{ℕ, ◌+◌, ◌-◌, cond, ◌≡◌, List, leb, ℤ, pos, length, set, Result, Ok, Err}
use Rattle.bits.specs.Bits.{unpack}
use Rattle.bits.specs.Access.{place_at}
use Rattle.answer.specs.Numbers.{no_room, refusal_at}
use Rattle.item.specs.Answers.{Item}
use Rattle.values.specs.Values.{set_value, store_all}
use Rattle.items.specs.Items.{Items}
use Rattle.items.specs.Walk.{Walk, walked, blocked, walk}
use Rattle.read_steps.specs.declared.Cursor.{Cursor}
use Rattle.answer.specs.declared.Refusal.{Refusal}

-- what reading items gives: the cursor after them; or the refusal
abbrev pub Step : Type 0
Step = Result Cursor Refusal

abbrev pub cursor_at : ℕ → ℕ → Cursor
cursor_at place count = record { place = place_at place; count = count }

abbrev pub refused_at : ℕ → ℕ → Step
refused_at number place = Err (refusal_at number place)

-- a walk as the code answers it, where count values stood before
abbrev pub step_of : ℕ → Walk → Step
step_of count (walked vs place) = Ok (cursor_at place (count + length vs))
step_of count (blocked refusal) = Err refusal

-- the slices that a walk leaves: its values, kept from index count on; after a refusal anything
abbrev pub Kept : {A : Type 0} → (List A → ℕ → ℤ → List A) → ℕ → Walk → List A → List A → Type 0
Kept put count (walked vs place) old new = new ≡ store_all put old count vs
Kept put count (blocked refusal) old new = Unit {0}

-- the code's step and the slices that it leaves agree with a walk
pub record Agrees (count : ℕ) (old new : List ℤ) (old_packed new_packed : List ℕ) (step : Step) (w : Walk) : Type 0 where
  pub answer : step ≡ step_of count w
  pub values : Kept set count w old new
  pub packed : Kept set_value count w old_packed new_packed

-- where a reader stands, with what the slices hold there
pub record State : Type 0 where
  pub cursor : Cursor
  pub values : List ℤ
  pub packed : List ℕ

abbrev pub state_at : Cursor → List ℤ → List ℕ → State
state_at cursor values packed = record { cursor = cursor; values = values; packed = packed }

-- the walk of items from a cursor on: at its place of the message, with what is left of the room
abbrev pub walk_from : Items → List ℕ → ℕ → Cursor → Walk
walk_from p message room cursor = walk p (unpack message) (room - cursor.count) cursor.place.0

-- reading the items p from a state on gives this step, and leaves this in the slices
pub record Reads (message : List ℕ) (room : ℕ) (p : Items) (from : State) (values : List ℤ) (packed : List ℕ) (step : Step) : Type 0 where
  pub agrees : Agrees from.cursor.count from.values values from.packed packed step (walk_from p message room from.cursor)

-- reading p from a state on comes to reading q from another: whatever completes q from there completes p
pub record Continues (message : List ℕ) (room : ℕ) (p : Items) (from : State) (q : Items) (to : State) : Type 0 where
  pub complete : (values : List ℤ) (packed : List ℕ) (step : Step) → Reads message room q to values packed step → Reads message room p from values packed step

-- an item that was read: its own refusal, then 8; else its value is kept and the cursor moves on
abbrev pub kept_step : Item → ℕ → Cursor → Step
kept_step (Err refusal) room cursor = Err refusal
kept_step (Ok (v, next)) room cursor =
    cond (leb room cursor.count) (refused_at no_room cursor.place.0) (Ok (record { place = next; count = cursor.count + 1 }))

abbrev pub kept_in : {A : Type 0} → (List A → ℕ → ℤ → List A) → Item → ℕ → ℕ → List A → List A
kept_in put (Err refusal) room count old = old
kept_in put (Ok (v, next)) room count old = cond (leb room count) old (put old count v)
