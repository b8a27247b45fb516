-- Reading items at a place of a message whose bits stay: what the reader of a row is proved against. It is read_items from
-- the bits at that place on, without the bits after.
use Rattle.std.specs.Prelude.{ℕ, ◌-◌, Bool, List, ◌++◌, ℤ, length, drop}
use Rattle.answer.specs.declared.Refusal.{Refusal}
use Rattle.items.specs.Items.{Items}
use Rattle.items.specs.Reading.{Reading, done, stuck, read_items}

-- the values and the place after them; or a refusal
pub data Walk : Type 0 where
  walked : List ℤ → ℕ → Walk
  blocked : Refusal → Walk

abbrev pub forget : Reading → Walk
forget (done vs at b) = walked vs at
forget (stuck refusal) = blocked refusal

-- items at a place of some bits, with room for some values
unfoldable pub walk : Items → List Bool → ℕ → ℕ → Walk
walk p b room at = forget (read_items p (drop at b) room at)

abbrev pub after : List ℤ → Walk → Walk
after us (walked vs at) = walked (us ++ vs) at
after us (blocked refusal) = blocked refusal

-- one walk after another
abbrev pub next : ℕ → Walk → (ℕ → ℕ → Walk) → Walk
next room (walked vs at) f = after vs (f (room - length vs) at)
next room (blocked refusal) f = blocked refusal
