-- `read_runs::read_numbers` meets its contract. Invariant: a slice that held the first of the run when the loop began holds those up to
-- now, whatever was lent.
use Prim.Native.Nat.{◌+◌, ◌*◌, ◌≤◌}
use mathlib.Core.Path.{◌≡◌}
use mathlib.Core.List.{List}
use lib.IntN.{ℤ}
use lib.ListN.{length, set}
use Rattle.bits.specs.Bits.{unpack}
use Rattle.read_runs.proofs.Copying.{kept}
use Rattle.read_runs.proofs.read_numbers.Given as goal

abbrev pub invariant-loop-done : goal.invariant-loop-done
invariant-loop-done l = let after = kept set (unpack l.message) (8 * l.from + l.into) l.at in
    (l.done ≤ l.count) × (length l.values ≡ length l.initial.values) × ((lent : List ℤ) → l.initial.values ≡ after l.initial.done lent → l.values ≡ after l.done lent)
