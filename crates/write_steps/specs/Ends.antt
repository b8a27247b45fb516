-- The end of a message that is written, and what writing leaves in the output before its rest is zeroed. No contract of a public
-- call cites this file.
use Rattle.std.specs.Prelude.{ℕ, ◌-◌, ◌*◌, ◌≤◌, ◌<◌, cond, ◌≡◌, List, ltb, eqb, length, take, Ok, Err}
use Rattle.bits.specs.Bits.{bits_of, unpack}
use Rattle.bits.specs.Access.{overwritten}
use Rattle.answer.specs.Numbers.{accepted, refused, wrong_value, no_room, Answer}
use Rattle.items.specs.Encoding.{size}
use Rattle.items.specs.Writing.{WriteOutcome, written, unwritten}
use Rattle.write_steps.specs.declared.Cursor.{Cursor}

-- an accepted outcome's octets stand at the output's start; a refusal leaves anything
abbrev pub WrittenBy : WriteOutcome → List ℕ → Type 0
WrittenBy (written s) new = (length s ≤ length new) × (take (length s) new ≡ s)
WrittenBy (unwritten refusal) new = Unit {0}

-- the end of a message of n values into cap octets, whose root ends at a cursor
abbrev pub ended_answer : ℕ → ℕ → Cursor → Answer
ended_answer n cap c =
    cond (ltb c.index n) (refused wrong_value c.index) (cond (eqb cap 0) (refused no_room n) (accepted 0 0 (size c.place.0)))

-- and what it leaves where it accepts: zero bits from the cursor on to the octet's end
abbrev pub Ended : ℕ → List ℕ → List ℕ → Cursor → Type 0
Ended n old new c =
    n ≤ c.index → 0 < length old
    → unpack new ≡ overwritten (unpack old) c.place.0 (bits_of (8 * size c.place.0 - c.place.0) 0)

-- how many octets an answer says were written
abbrev pub written_count : Answer → ℕ
written_count (Ok counts) = counts.octets.0
written_count (Err refusal) = 0
