-- `stream::run` meets its contract. The invariant: the buffers keep their lengths, what is held stays
-- within them, and it is what the turns so far led to.
use mathlib.Core.Path.{◌≡◌}
use lib.ListN.{length}
use Rattle.buffers.specs.Held.{Held}
use Rattle.stream.proofs.Running.{Running}
use Rattle.stream.proofs.run.Given as goal

abbrev pub invariant-loop : goal.invariant-loop
invariant-loop l = Held l.s × (length l.input ≡ 65536) × (length l.output ≡ 65536) × (length l.values ≡ 1024) × Running l.fn.start l.input l.output l.s l.progress l.counter
