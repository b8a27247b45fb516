-- The bench program (document 01, "The bench program"): its frames, the line of each, its last lines, and the whole of it as a machine.
use Rattle.std.specs.Prelude.{ℕ, cond, List, [], ◌∷◌, ◌++◌, ltb, eqb, length, drop}
use Rattle.octets.specs.Numbers.{u16}
use Rattle.encoding.specs.Reading.{read_outcome}
use Rattle.builtin.specs.Tables.{sam, srm}
use Rattle.lm.specs.ByName.{read_lm_outcome}
use Rattle.lines.specs.Text.{number_line, outcome_line, last_line}
use Rattle.machine.specs.declared.Front.{Front}
use Rattle.machine.specs.declared.Front.TheVariants.{Whole, Part, Wrong}
use Rattle.machine.specs.declared.Before.{Before}
use Rattle.machine.specs.Counts.{after_unit}
use Rattle.machine.specs.Machine.{Machine}

-- what octets begin with. The first two are the length of the whole frame, the next two its kind; a length under 4 is no frame's.
unfoldable pub first_frame : List ℕ → Front
first_frame s =
    cond (ltb (length s) 4) Part
    (cond (ltb (u16 s 0) 4) Wrong
    (cond (ltb (length s) (u16 s 0)) Part
    (Whole (u16 s 0))))

-- `no kind K`
abbrev pub kind_line : ℕ → List ℕ
kind_line k = number_line (110 ∷ 111 ∷ 32 ∷ 107 ∷ 105 ∷ 110 ∷ 100 ∷ 32 ∷ []) k

-- the line of a frame's message: the kind is 1 for an LM, 2 for a SAM, 3 for an SRM, and it is read with room for so many values
unfoldable pub message_line : ℕ → List ℕ → ℕ → List ℕ
message_line kind message room =
    cond (eqb kind 1) (outcome_line (read_lm_outcome message room))
    (cond (eqb kind 2) (outcome_line (read_outcome sam message room))
    (cond (eqb kind 3) (outcome_line (read_outcome srm message room))
    (kind_line kind)))

-- the line of a whole frame: its message stands behind its length and its kind
abbrev pub frame_line : List ℕ → ℕ → List ℕ
frame_line frame room = message_line (u16 frame 2) (drop 4 frame) room

-- `bad frame at N`
abbrev pub bad_line : ℕ → List ℕ
bad_line n = number_line (98 ∷ 97 ∷ 100 ∷ 32 ∷ 102 ∷ 114 ∷ 97 ∷ 109 ∷ 101 ∷ 32 ∷ 97 ∷ 116 ∷ 32 ∷ []) n

-- the last lines at a bad frame: the input's octets before it, and the frames
abbrev pub stop_lines : Before → List ℕ
stop_lines before = bad_line before.octets ++ last_line before.units

-- the last lines where the input ends: after the last frame, or inside one
abbrev pub end_lines : Before → List ℕ → List ℕ
end_lines before [] = last_line before.units
end_lines before (x ∷ left) = stop_lines before

-- The bench program, with room for 1,024 values.
abbrev pub bench : Machine Before
bench =
    record {
      front = λ before s. first_frame s;
      line = λ before frame. frame_line frame 1024;
      next = λ before frame. after_unit before (length frame);
      stopped = stop_lines;
      ended = end_lines;
    }
