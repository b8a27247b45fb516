-- Replaying a drive (document 02, ticket 8): a recording of house frames, and the list of seen records that it begins with, have one text, and
-- leave one list. `replay` is that as a machine, whose state is the list; `given replay` is the text and the list left.
use Rattle.std.specs.Prelude.{ℕ, cond, List, [], ◌∷◌, ◌++◌, leb, eqb, length, drop, replicate, Ok, Err}
use Rattle.octets.specs.Numbers.{u16, u32}
use Rattle.answer.specs.Numbers.{Answer}
use Rattle.lines.specs.Text.{refused_line}
use Rattle.machine.specs.Machine.{Machine}
use Rattle.house.specs.House.{first_frame, kind_line}
use Rattle.hexadecimal.specs.Hex.{hex}
use Rattle.seen.specs.declared.Seen.{Seen}
use Rattle.seen.specs.Records.{blank}
use Rattle.forward.specs.Forward.{lowered, forward_answer, seen_after}

-- ── a frame of a message that was heard: its length, its kind, the time, and then the message ──

abbrev pub heard_kind : ℕ
heard_kind = 16

abbrev pub heard_header : ℕ
heard_header = 8

abbrev pub time_of : List ℕ → ℕ
time_of frame = u32 frame 4

abbrev pub message_of : List ℕ → List ℕ
message_of frame = drop heard_header frame

-- ── its line, and the list after it ──

-- the output has room for any frame
abbrev pub any_frame : ℕ
any_frame = 65536

-- the line of a step: the forwarded octets in hexadecimal, or `no R at P`
abbrev pub step_line : Answer → List ℕ → List ℕ
step_line (Ok c) forwarded = hex forwarded ++ (10 ∷ [])
step_line (Err r) forwarded = refused_line r

-- of a message that was heard at a time, with a list
abbrev pub heard_line : List ℕ → ℕ → List Seen → List ℕ
heard_line m t rs = step_line (forward_answer m t rs any_frame) (lowered m)

abbrev pub heard_after : List ℕ → ℕ → List Seen → List Seen
heard_after m t rs = seen_after m t rs any_frame

-- ── any frame ──

-- `bad frame`
abbrev pub bad_frame : List ℕ
bad_frame = 98 ∷ 97 ∷ 100 ∷ 32 ∷ 102 ∷ 114 ∷ 97 ∷ 109 ∷ 101 ∷ 10 ∷ []

-- the line of a whole frame: of another kind, of one that is too short for its time, and of a message
unfoldable pub frame_line : List Seen → List ℕ → List ℕ
frame_line rs frame =
    cond (eqb (u16 frame 2) heard_kind)
    (cond (leb heard_header (length frame)) (heard_line (message_of frame) (time_of frame) rs) bad_frame)
    (kind_line (u16 frame 2))

-- the list after it: that of the message; else it stays
unfoldable pub list_after : List Seen → List ℕ → List Seen
list_after rs frame =
    cond (eqb (u16 frame 2) heard_kind)
    (cond (leb heard_header (length frame)) (heard_after (message_of frame) (time_of frame) rs) rs) rs

-- where the recording ends, nothing more is told; unless it ends inside a frame
abbrev pub left_line : List ℕ → List ℕ
left_line [] = []
left_line (x ∷ left) = bad_frame

-- ── the recording ──

-- the list that a recording is replayed from: 64 records, none of them in use
abbrev pub empty_list : List Seen
empty_list = replicate 64 blank

abbrev pub replay : Machine (List Seen)
replay =
    record {
      front = λ rs s. first_frame s;
      line = frame_line;
      next = list_after;
      stopped = λ rs. bad_frame;
      ended = λ rs left. left_line left;
    }
