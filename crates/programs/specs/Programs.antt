-- The programs as one machine: each does what its own machine does (Apart).
use Rattle.std.specs.Prelude.{ℕ, List}
use Rattle.machine.specs.declared.Front.{Front}
use Rattle.machine.specs.Machine.{Machine, Within}
use Rattle.frames.specs.Frames.{bench}
use Rattle.stages.specs.Stages.{header_of as capture_header}
use Rattle.captures.specs.Captures.{capture}
use Rattle.programs.specs.declared.Progress.{Progress}
use Rattle.programs.specs.declared.Progress.TheVariants.{Bench, Capture}

-- the octets of a unit's own header
abbrev pub header_of : Progress → ℕ
header_of (Bench before) = 4
header_of (Capture stage) = capture_header stage

abbrev pub front_of : Progress → List ℕ → Front
front_of (Bench before) s = bench.front before s
front_of (Capture stage) s = capture.front stage s

abbrev pub line_of : Progress → List ℕ → List ℕ
line_of (Bench before) s = bench.line before s
line_of (Capture stage) s = capture.line stage s

abbrev pub progress_after : Progress → List ℕ → Progress
progress_after (Bench before) s = Bench (bench.next before s)
progress_after (Capture stage) s = Capture (capture.next stage s)

abbrev pub stopped_lines : Progress → List ℕ
stopped_lines (Bench before) = bench.stopped before
stopped_lines (Capture stage) = capture.stopped stage

abbrev pub ended_lines : Progress → List ℕ → List ℕ
ended_lines (Bench before) left = bench.ended before left
ended_lines (Capture stage) left = capture.ended stage left

abbrev pub programs : Machine Progress
programs = record { front = front_of; line = line_of; next = progress_after; stopped = stopped_lines; ended = ended_lines }

-- Each program goes on as its own machine does.
pub record Apart : Type 0 where
  pub bench : Within bench programs Bench
  pub capture : Within capture programs Capture
