-- The corners of document 02's ticket 7, and of the points that it leaves open (docs/DECISIONS.md, "Forwarding"), as one list of calls. That the definitions give
-- each its answer, its list and its output is `ForwardingCases`; the proof, by computation, is proofs/Cases.antt.
use Rattle.std.specs.Prelude.{ℕ, true, false, ◌≡◌, List, [], ◌∷◌, map}
use Rattle.answer.specs.Numbers.{accepted, refused, Answer}
use Rattle.seen.specs.declared.Seen.{Seen}
use Rattle.forward.specs.Forward.{forward_output}
use Rattle.forwarded.specs.Sequence.{Call, answer_to, after_call}

-- what a call gives: its answer, the list after it, and the output
pub record Given : Type 0 where
  pub answer : Answer
  pub list : List Seen
  pub output : List ℕ

-- a call, the list before it, and what the papers give
pub record Case : Type 0 where
  pub call : Call
  pub before : List Seen
  pub gives : Given

-- a message at a time, a list, an output of so many octets; and an answer, a list, an output
abbrev pub case : List ℕ → ℕ → List Seen → ℕ → Answer → List Seen → List ℕ → Case
case m t rs cap answer list output = record { call = record { message = m; time = t; room = cap }; before = rs; gives = record { answer = answer; list = list; output = output } }

unfoldable pub cases : List Case
cases =
    -- goes on: ID 7, hop count 3
    case (0x23 ∷ 0x00 ∷ 0x00 ∷ 0x1f ∷ []) 0 (record { id = 7; time = 0; used = false } ∷ []) 4 (accepted 0 0 4) (record { id = 7; time = 0; used = true } ∷ []) (0x23 ∷ 0x00 ∷ 0x00 ∷ 0x1e ∷ [])
    -- zeros after it; the extensions flag is kept, and what follows isn't looked at: a reserved TPID
    ∷ case (0x2b ∷ 0x00 ∷ 0x00 ∷ 0x1f ∷ 0xfe ∷ []) 0 (record { id = 0; time = 0; used = false } ∷ []) 7 (accepted 0 0 5) (record { id = 7; time = 0; used = true } ∷ []) (0x2b ∷ 0x00 ∷ 0x00 ∷ 0x1e ∷ 0xfe ∷ 0x00 ∷ 0x00 ∷ [])
    -- under four octets; then 10 before 11, 11 for a subtype that reading takes, 40
    ∷ case (0x04 ∷ []) 0 (record { id = 0; time = 0; used = false } ∷ []) 1 (refused 2 0) (record { id = 0; time = 0; used = false } ∷ []) (0x00 ∷ [])
    ∷ case (0x04 ∷ 0x00 ∷ 0x00 ∷ 0x1f ∷ []) 0 (record { id = 0; time = 0; used = false } ∷ []) 4 (refused 10 5) (record { id = 0; time = 0; used = false } ∷ []) (0x00 ∷ 0x00 ∷ 0x00 ∷ 0x00 ∷ [])
    ∷ case (0x03 ∷ 0x00 ∷ 0x00 ∷ 0x1f ∷ []) 0 (record { id = 0; time = 0; used = false } ∷ []) 4 (refused 11 0) (record { id = 0; time = 0; used = false } ∷ []) (0x00 ∷ 0x00 ∷ 0x00 ∷ 0x00 ∷ [])
    ∷ case (0x23 ∷ 0x00 ∷ 0x00 ∷ 0x1c ∷ []) 0 (record { id = 0; time = 0; used = false } ∷ []) 4 (refused 40 30) (record { id = 0; time = 0; used = false } ∷ []) (0x00 ∷ 0x00 ∷ 0x00 ∷ 0x00 ∷ [])
    -- the bounds of a life: 4,999 before now, and 5,000
    ∷ case (0x23 ∷ 0x00 ∷ 0x00 ∷ 0x1f ∷ []) 4999 (record { id = 7; time = 0; used = true } ∷ []) 4 (refused 41 8) (record { id = 7; time = 0; used = true } ∷ []) (0x00 ∷ 0x00 ∷ 0x00 ∷ 0x00 ∷ [])
    ∷ case (0x23 ∷ 0x00 ∷ 0x00 ∷ 0x1f ∷ []) 5000 (record { id = 7; time = 0; used = true } ∷ []) 4 (accepted 0 0 4) (record { id = 7; time = 5000; used = true } ∷ []) (0x23 ∷ 0x00 ∷ 0x00 ∷ 0x1e ∷ [])
    -- later than now, as after the clock has wrapped
    ∷ case (0x23 ∷ 0x00 ∷ 0x00 ∷ 0x1f ∷ []) 5000 (record { id = 7; time = 4294967294; used = true } ∷ []) 4 (refused 41 8) (record { id = 7; time = 4294967294; used = true } ∷ []) (0x00 ∷ 0x00 ∷ 0x00 ∷ 0x00 ∷ [])
    -- no records; all live; 41 and 42 before 8, and 8 stores nothing
    ∷ case (0x23 ∷ 0x00 ∷ 0x00 ∷ 0x1f ∷ []) 0 ([]) 4 (refused 42 0) ([]) (0x00 ∷ 0x00 ∷ 0x00 ∷ 0x00 ∷ [])
    ∷ case (0x23 ∷ 0x00 ∷ 0x00 ∷ 0x1f ∷ []) 0 (record { id = 8; time = 0; used = true } ∷ []) 4 (refused 42 0) (record { id = 8; time = 0; used = true } ∷ []) (0x00 ∷ 0x00 ∷ 0x00 ∷ 0x00 ∷ [])
    ∷ case (0x23 ∷ 0x00 ∷ 0x00 ∷ 0x1f ∷ []) 0 (record { id = 7; time = 0; used = true } ∷ []) 3 (refused 41 8) (record { id = 7; time = 0; used = true } ∷ []) (0x00 ∷ 0x00 ∷ 0x00 ∷ [])
    ∷ case (0x23 ∷ 0x00 ∷ 0x00 ∷ 0x1f ∷ []) 0 (record { id = 8; time = 0; used = true } ∷ []) 3 (refused 42 0) (record { id = 8; time = 0; used = true } ∷ []) (0x00 ∷ 0x00 ∷ 0x00 ∷ [])
    ∷ case (0x23 ∷ 0x00 ∷ 0x00 ∷ 0x1f ∷ []) 5000 (record { id = 7; time = 0; used = true } ∷ []) 3 (refused 8 0) (record { id = 7; time = 0; used = true } ∷ []) (0x00 ∷ 0x00 ∷ 0x00 ∷ [])
    -- the first record that isn't live, not the old one with the ID
    ∷ case (0x23 ∷ 0x00 ∷ 0x00 ∷ 0x1f ∷ []) 5000 (record { id = 9; time = 0; used = false } ∷ record { id = 7; time = 0; used = true } ∷ []) 4 (accepted 0 0 4) (record { id = 7; time = 5000; used = true } ∷ record { id = 7; time = 0; used = true } ∷ []) (0x23 ∷ 0x00 ∷ 0x00 ∷ 0x1e ∷ [])
    -- an ID above 22 bits is no message's
    ∷ case (0x23 ∷ 0x00 ∷ 0x00 ∷ 0x1f ∷ []) 0 (record { id = 4194311; time = 0; used = true } ∷ []) 4 (refused 42 0) (record { id = 4194311; time = 0; used = true } ∷ []) (0x00 ∷ 0x00 ∷ 0x00 ∷ 0x00 ∷ [])
    ∷ []

-- what the definitions give
abbrev pub given : Case → Given
given c = record {
  answer = answer_to c.before c.call;
  list = after_call c.before c.call;
  output = forward_output c.call.message c.call.time c.before c.call.room;
}

pub record ForwardingCases : Type 0 where
  pub all : map given cases ≡ map (λ (c : Case). c.gives) cases
