-- What holds of a program's state from turn to turn: its indices lie within the buffers, and there is room for the last lines.
use Rattle.std.specs.Prelude.{ℕ, ◌+◌, ◌-◌, ◌≤◌, List, take, drop}
use Rattle.buffers.specs.declared.State.{State}
use Rattle.buffers.specs.declared.Led.{Led}
use Rattle.buffers.specs.declared.Led.TheVariants.{Next, End, Stop, Lost}

pub record Held (s : State) : Type 0 where
  pub ordered : s.from ≤ s.end
  pub within : s.end ≤ 65536
  pub room : s.lines ≤ 55365

-- the same of what a turn leads to
abbrev pub HeldAfter : Led → Type 0
HeldAfter (Next s) = Held s
HeldAfter (End s) = Held s
HeldAfter (Stop s) = Held s
HeldAfter Lost = Unit {0}

-- the octets at hand: read and not used
abbrev pub at_hand : State → List ℕ → List ℕ
at_hand s input = take (s.end - s.from) (drop s.from input)

-- what is held after a unit of a size, whose line ends at an index
abbrev pub held_behind : State → ℕ → ℕ → State
held_behind s size lines = record { from = s.from + size; end = s.end; lines = lines }
