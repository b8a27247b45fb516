-- The close of a message, and what reading leaves in the lent slices before their rest is zeroed. No contract of a public call
-- cites this file.
use Rattle.std.specs.Prelude.{ℕ, cond, ◌&&◌, ◌≡◌, List, eqb, ℤ, length, drop, Ok, Err}
use Rattle.bits.specs.Bits.{unpack}
use Rattle.answer.specs.Numbers.{accepted, refused, not_padding, Answer}
use Rattle.values.specs.Values.{store_all}
use Rattle.items.specs.Encoding.{size}
use Rattle.items.specs.Reading.{ReadOutcome, accept, refuse, all_zero}
use Rattle.read_steps.specs.declared.Cursor.{Cursor}

-- an accepted outcome's values are kept from the slice's start on; a refusal leaves anything
abbrev pub KeptBy : {A : Type 0} → (List A → ℕ → ℤ → List A) → ReadOutcome → List A → List A → Type 0
KeptBy put (accept vs bits) old new = new ≡ store_all put old 0 vs
KeptBy put (refuse refusal) old new = Unit {0}

-- the close of a message whose root ends at a cursor
abbrev pub closed : List ℕ → Cursor → Answer
closed m c =
    cond (eqb (length m) (size c.place.0) && all_zero (drop c.place.0 (unpack m)))
    (accepted c.count c.place.0 0)
    (refused not_padding c.place.0)

-- how many values an answer says were kept
abbrev pub kept_count : Answer → ℕ
kept_count (Ok counts) = counts.values
kept_count (Err refusal) = 0
