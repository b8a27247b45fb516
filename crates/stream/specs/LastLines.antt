-- What is told where the turns of a program end, for any machine.
use Rattle.std.specs.Prelude.{ℕ, List, []}
use Rattle.machine.specs.Machine.{Machine}
use Rattle.buffers.specs.declared.Led.{Led}
use Rattle.buffers.specs.declared.Led.TheVariants.{Next, End, Stop, Lost}
use Rattle.buffers.specs.Held.{at_hand}

-- the end of the lines that are held where the turns end
abbrev pub lines_of : Led → ℕ
lines_of (Next s) = s.lines
lines_of (End s) = s.lines
lines_of (Stop s) = s.lines
lines_of Lost = 0

-- the last lines: of an input that ended with the octets at hand left, or of a stop. Turns that were used up, which no run sees, are told
-- as an end with none left
abbrev pub last_text : {A : Type 0} → Machine A → A → List ℕ → Led → List ℕ
last_text m a input (Next s) = m.ended a []
last_text m a input (End s) = m.ended a (at_hand s input)
last_text m a input (Stop s) = m.stopped a
last_text m a input Lost = []
