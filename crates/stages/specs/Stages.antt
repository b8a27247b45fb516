-- A capture file from its beginning to its end (document 02, ticket 6): the file's header, then records, and the last lines.
use Rattle.std.specs.Prelude.{ℕ, List, [], ◌∷◌, ◌++◌, length}
use Rattle.lines.specs.Text.{placed_line, last_line}
use Rattle.machine.specs.declared.Front.{Front}
use Rattle.machine.specs.declared.Before.{Before}
use Rattle.machine.specs.Counts.{nothing, after_unit}
use Rattle.pcap.specs.Pcap.{file_header, record_header, order_of, file_front, record_front}
use Rattle.stages.specs.declared.Stage.{Stage}
use Rattle.stages.specs.declared.Stage.TheVariants.{Opening, Records}

-- the octets of a unit's own header
abbrev pub header_of : Stage → ℕ
header_of Opening = file_header
header_of (Records order before) = record_header

-- what octets begin with
abbrev pub front_of : Stage → List ℕ → Front
front_of Opening s = file_front s
front_of (Records order before) s = record_front order s

-- where a reader is behind a unit. The file's header is no record; every record counts, whatever it holds
abbrev pub stage_after : Stage → List ℕ → Stage
stage_after Opening file = Records (order_of file) (record { octets = file_header; units = 0 })
stage_after (Records order before) s = Records order (after_unit before (length s))

-- `stop R at P`, P the octets before, and `frames N`, N the records before
abbrev pub stop_lines : ℕ → Before → List ℕ
stop_lines r before = placed_line (115 ∷ 116 ∷ 111 ∷ 112 ∷ 32 ∷ []) r before.octets ++ last_line before.units

-- the last lines where octets are no unit: no file's header as asked; a record above 2,048 octets
abbrev pub stopped_lines : Stage → List ℕ
stopped_lines Opening = stop_lines 30 nothing
stopped_lines (Records order before) = stop_lines 31 before

-- the last lines where the file ends with these octets left: inside its header; where a record would begin; inside one
abbrev pub ended_lines : Stage → List ℕ → List ℕ
ended_lines Opening left = stop_lines 30 nothing
ended_lines (Records order before) [] = last_line before.units
ended_lines (Records order before) (x ∷ left) = stop_lines 32 before
