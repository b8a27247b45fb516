-- Any sequence of calls over one list of seen records (document 02, ticket 7): a live record is never overwritten, so an ID that was
-- forwarded is refused for the next 4,999 milliseconds. The proof, by induction over the calls, is proofs/Sequence.antt.
use Rattle.std.specs.Prelude.{ℕ, ◌+◌, ◌≤◌, ◌<◌, ◌≡◌, List, [], ◌∷◌, length}
use Rattle.answer.specs.Numbers.{refused, accepted, id_seen, Answer}
use Rattle.seen.specs.declared.Seen.{Seen}
use Rattle.forward.specs.Forward.{message_id, forward_answer, seen_after}
use Rattle.forwarded.specs.Steps.{Live, at, Heads}

-- a call: a message, a time, and an output of so many octets
pub record Call : Type 0 where
  pub message : List ℕ
  pub time : ℕ
  pub room : ℕ

-- its answer with a list, and the list after it
abbrev pub answer_to : List Seen → Call → Answer
answer_to rs c = forward_answer c.message c.time rs c.room

abbrev pub after_call : List Seen → Call → List Seen
after_call rs c = seen_after c.message c.time rs c.room

-- the list after calls in order
abbrev pub after : List Seen → List Call → List Seen
after rs [] = rs
after rs (c ∷ calls) = after (after_call rs c) calls

-- for how many milliseconds an ID that was forwarded is refused
abbrev pub refused_for : ℕ
refused_for = 4999

-- every call's time is at most t
abbrev pub Until : ℕ → List Call → Type 0
Until t [] = Unit {0}
Until t (c ∷ calls) = (c.time ≤ t) × Until t calls

pub record AnySequence : Type 0 where
  -- no call changes a record that is live at its time, or the count of the records
  pub keeps : (rs : List Seen) (c : Call) (i : ℕ) → i < length rs → Live c.time (at rs i) → at (after_call rs c) i ≡ at rs i
  pub counts : (rs : List Seen) (calls : List Call) → length (after rs calls) ≡ length rs
  -- once a call is accepted, its ID is refused in every later call that comes as far as that test, as long as no time is more than 4,999
  -- later
  pub once : (rs : List Seen) (c : Call) → answer_to rs c ≡ accepted 0 0 (length c.message) → (calls : List Call) → Until (c.time + refused_for) calls
      → (d : Call) → d.time ≤ c.time + refused_for → Heads d.message → message_id d.message ≡ message_id c.message → answer_to (after (after_call rs c) calls) d ≡ refused id_seen 8
