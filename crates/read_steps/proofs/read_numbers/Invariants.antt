-- `read_steps::read_numbers` meets its contract. Invariant: reading the run comes to reading what is left of it.
-- Assumes nothing.
use Prim.Native.Nat.{◌-◌}
use mathlib.Core.Path.{◌≡◌}
use lib.ListN.{length}
use Rattle.item.specs.Code.{number}
use Rattle.items.specs.Items.{one, times}
use Rattle.read_steps.specs.Reads.{state_at, Continues}
use Rattle.read_steps.proofs.read_numbers.Given as goal

abbrev pub invariant-loop : goal.invariant-loop
invariant-loop l = (length l.values ≡ length l.initial.values) × (length l.packed ≡ length l.initial.packed)
    × Continues l.message l.room (times l.count (one (number l.low l.span))) (state_at l.initial.here l.initial.values l.initial.packed) (times (l.count - l.counter) (one (number l.low l.span))) (state_at l.here l.values l.packed)
