-- `read_runs::read_fours` meets its contract. Invariant: so many fours are kept.
use Prim.Native.Nat.{◌+◌, ◌*◌, ◌≤◌}
use mathlib.Core.Path.{◌≡◌}
use lib.ListN.{length, set}
use Rattle.bits.specs.Bits.{unpack}
use Rattle.read_runs.proofs.Copying.{kept}
use Rattle.read_runs.proofs.read_fours.Given as goal

abbrev pub invariant-loop-done : goal.invariant-loop-done
invariant-loop-done l = (l.done ≤ l.fours) × (length l.values ≡ length l.initial.values) × (l.values ≡ kept set (unpack l.message) (8 * l.from + l.into) l.at (4 * l.done) l.initial.values)
