-- `read_runs::read_packed` meets its contract. Invariant: a slice that held the first of the run when the loop began holds those up to
-- now, whatever was lent.
use Prim.Native.Nat.{ℕ, ◌+◌, ◌*◌, ◌≤◌}
use mathlib.Core.Path.{◌≡◌}
use mathlib.Core.List.{List}
use lib.ListN.{length}
use Rattle.bits.specs.Bits.{unpack}
use Rattle.values.specs.Values.{set_value}
use Rattle.read_runs.proofs.Copying.{kept}
use Rattle.read_runs.proofs.read_packed.Given as goal

abbrev pub invariant-loop-done : goal.invariant-loop-done
invariant-loop-done l = let after = kept set_value (unpack l.message) (8 * l.from + l.into) l.at in
    (l.done ≤ l.count) × (length l.packed ≡ length l.initial.packed) × ((lent : List ℕ) → l.initial.packed ≡ after l.initial.done lent → l.packed ≡ after l.done lent)
