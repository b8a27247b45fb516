-- The capture program (document 02, ticket 6): the line of each record of a capture file, and the whole of it as a machine.
use Rattle.std.specs.Prelude.{ℕ, List, [], ◌∷◌, ◌++◌, drop}
use Rattle.lm.specs.ByName.{read_lm_outcome}
use Rattle.lines.specs.Text.{decimal, outcome_line}
use Rattle.machine.specs.Machine.{Machine}
use Rattle.pcap.specs.declared.Order.{Order}
use Rattle.pcap.specs.declared.Record.{Record}
use Rattle.pcap.specs.declared.Record.TheVariants.{Cut, Lm, Other}
use Rattle.pcap.specs.Pcap.{lm_headers, record_of}
use Rattle.stages.specs.declared.Stage.{Stage}
use Rattle.stages.specs.declared.Stage.TheVariants.{Opening, Records}
use Rattle.stages.specs.Stages.{front_of, stage_after, stopped_lines, ended_lines}

-- `N cut`
abbrev pub cut_line : ℕ → List ℕ
cut_line n = decimal n ++ (32 ∷ 99 ∷ 117 ∷ 116 ∷ 10 ∷ [])

-- `N ok C: v v v` or `N no R at P`: an LM by name, read with room for so many values
abbrev pub lm_line : ℕ → List ℕ → ℕ → List ℕ
lm_line n lm room = decimal n ++ (32 ∷ outcome_line (read_lm_outcome lm room))

-- the line of a record: an LM is all that stands behind the record's header and the 14 octets of Ethernet's
abbrev pub line_of : Record → ℕ → List ℕ → ℕ → List ℕ
line_of Cut n s room = cut_line n
line_of Lm n s room = lm_line n (drop lm_headers s) room
line_of Other n s room = []

abbrev pub record_line : Order → ℕ → List ℕ → ℕ → List ℕ
record_line order n s room = line_of (record_of order s) n s room

-- the line of a unit; a record's number is the count of those before it
abbrev pub unit_line : Stage → List ℕ → ℕ → List ℕ
unit_line Opening s room = []
unit_line (Records order before) s room = record_line order before.units s room

-- The capture program, with room for 1,024 values.
abbrev pub capture : Machine Stage
capture =
    record {
      front = front_of;
      line = λ stage s. unit_line stage s 1024;
      next = stage_after;
      stopped = stopped_lines;
      ended = ended_lines;
    }
