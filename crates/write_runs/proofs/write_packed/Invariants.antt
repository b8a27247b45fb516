-- `write_runs::write_packed` meets its contract. Invariant: so many were put.
use Prim.Native.Nat.{◌+◌, ◌*◌, ◌≤◌, ◌<◌}
use mathlib.Core.Path.{◌≡◌}
use lib.ListN.{length, get_or}
use Rattle.values.specs.Values.{values_in}
use Rattle.write_runs.specs.Runs.{Puts}
use Rattle.write_runs.proofs.write_packed.Given as goal

abbrev pub invariant-loop-done : goal.invariant-loop-done
invariant-loop-done l = (l.done ≤ l.count) × (length l.output ≡ length l.initial.output) × Puts (values_in l.packed) l.index l.done l.initial.output (8 * l.at + l.into) l.output
    × (0 < l.into → l.last ≡ get_or l.output (l.at + l.done) 0)
