-- The programs that read messages and the replay of a drive as one machine: each does what its own machine does (Together).
use Rattle.std.specs.Prelude.{ℕ, List}
use Rattle.machine.specs.declared.Front.{Front}
use Rattle.machine.specs.Machine.{Machine, Within}
use Rattle.seen.specs.declared.Seen.{Seen}
use Rattle.programs.specs.declared.Progress.{Progress}
use Rattle.programs.specs.Programs.{programs}
use Rattle.drive.specs.Replay.{bad_frame, left_line, replay, empty_list}
use Rattle.house.specs.House.{first_frame}
use Rattle.tasks.specs.declared.Task.{Task}
use Rattle.tasks.specs.declared.Task.TheVariants.{Read, Replay}

-- a task, and the list of seen records, which no program that reads messages looks at
pub record Place : Type 0 where
  pub task : Task
  pub seen : List Seen

abbrev pub place : Task → List Seen → Place
place task rs = record { task = task; seen = rs }

abbrev pub front_of : Task → List ℕ → Front
front_of (Read progress) s = programs.front progress s
front_of Replay s = first_frame s

abbrev pub line_of : Task → List Seen → List ℕ → List ℕ
line_of (Read progress) rs s = programs.line progress s
line_of Replay rs s = replay.line rs s

abbrev pub place_after : Task → List Seen → List ℕ → Place
place_after (Read progress) rs s = place (Read (programs.next progress s)) rs
place_after Replay rs s = place Replay (replay.next rs s)

abbrev pub stopped_lines : Task → List ℕ
stopped_lines (Read progress) = programs.stopped progress
stopped_lines Replay = bad_frame

abbrev pub ended_lines : Task → List ℕ → List ℕ
ended_lines (Read progress) left = programs.ended progress left
ended_lines Replay left = left_line left

abbrev pub tasks : Machine Place
tasks =
    record {
      front = λ p s. front_of p.task s;
      line = λ p s. line_of p.task p.seen s;
      next = λ p s. place_after p.task p.seen s;
      stopped = λ p. stopped_lines p.task;
      ended = λ p left. ended_lines p.task left;
    }

-- a program that reads messages, beside an empty list; and the replay with its list
abbrev pub reading : Progress → Place
reading progress = place (Read progress) empty_list

abbrev pub replaying : List Seen → Place
replaying rs = place Replay rs

-- Each goes on as its own machine does.
pub record Together : Type 0 where
  pub programs : Within programs tasks reading
  pub replay : Within replay tasks replaying
