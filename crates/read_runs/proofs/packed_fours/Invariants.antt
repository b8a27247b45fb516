-- `read_runs::packed_fours` meets its contract. Invariant: so many fours are kept.
use Prim.Native.Nat.{◌+◌, ◌*◌, ◌≤◌}
use mathlib.Core.Path.{◌≡◌}
use lib.ListN.{length}
use Rattle.bits.specs.Bits.{unpack}
use Rattle.values.specs.Values.{set_value}
use Rattle.read_runs.proofs.Copying.{kept}
use Rattle.read_runs.proofs.packed_fours.Given as goal

abbrev pub invariant-loop-done : goal.invariant-loop-done
invariant-loop-done l = (l.done ≤ l.fours) × (length l.packed ≡ length l.initial.packed) × (l.packed ≡ kept set_value (unpack l.message) (8 * l.from + l.into) l.at (4 * l.done) l.initial.packed)
