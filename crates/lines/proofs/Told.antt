-- A law of lines: an answer and the values that came back tell the outcome of reading.
use Prim.Native.Nat.{ℕ}
use mathlib.Core.Path.{◌≡◌, refl, ap}
use mathlib.Core.List.{List}
use lib.IntN.{ℤ}
use lib.ListN.{length}
use lib.Seq.{take-append_seam}
use Rattle.answer.specs.Numbers.{Answer}
use Rattle.items.specs.Reading.{ReadOutcome, accept, refuse, read_answer}
use Rattle.items.specs.Slices.{values_after}
use Rattle.lines.specs.Text.{Appended, accepted_line, answer_line, outcome_line}

answer-line : (o : ReadOutcome) (room : ℕ) → answer_line (read_answer o) (values_after room o) ≡ outcome_line o
answer-line (accept vs bits) room = ap (accepted_line (length vs)) (take-append_seam vs _)
answer-line (refuse refusal) room = refl

-- the line of an answer is the line of the outcome that it tells
pub line-told : {before after : List ℕ} {at end : ℕ} {answer : Answer} {values : List ℤ} (o : ReadOutcome) (room : ℕ)
    → (answer ≡ read_answer o) × (values ≡ values_after room o) → Appended before at (answer_line answer values) after end
    → Appended before at (outcome_line o) after end
line-told o room (a, v) p = rw (a, v, answer-line o room) at p
