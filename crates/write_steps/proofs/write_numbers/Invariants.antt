-- `write_steps::write_numbers` meets its contract. Invariant: writing the run comes to writing what is left of it.
-- Assumes nothing.
use Prim.Native.Nat.{◌-◌}
use mathlib.Core.Path.{◌≡◌}
use lib.ListN.{length}
use Rattle.item.specs.Code.{number}
use Rattle.items.specs.Items.{one, times}
use Rattle.write_steps.specs.Writes.{list_in, state_at, Continues}
use Rattle.write_steps.proofs.write_numbers.Given as goal

abbrev pub invariant-loop : goal.invariant-loop
invariant-loop l = let code = number l.low l.span in
    (length l.output ≡ length l.initial.output)
    × Continues (list_in l.values l.packed) (times l.count (one code)) (state_at l.initial.here l.initial.output) (times (l.count - l.counter) (one code)) (state_at l.here l.output)
