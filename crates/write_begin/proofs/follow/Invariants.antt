-- `write_begin::follow` meets its contract. Invariant: writing the row comes to writing the row that the choices so far lead to.
-- Assumes nothing.
use Prim.Native.Nat.{◌≤◌}
use mathlib.Core.Path.{◌≡◌}
use lib.ListN.{length}
use Rattle.rules.specs.Rules.{Starts}
use Rattle.encoding.specs.Rows.{items}
use Rattle.write_steps.specs.Writes.{list_in, state_at, Continues}
use Rattle.write_begin.proofs.follow.Given as goal

abbrev pub invariant-loop-output : goal.invariant-loop-output
invariant-loop-output l = Starts l.table l.row × (l.row ≤ l.at) × (length l.output ≡ length l.initial.output)
    × Continues (list_in l.values l.packed) (items l.table l.at) (state_at l.initial.here l.initial.output) (items l.table l.row) (state_at l.here l.output)

abbrev pub decreases-loop-output : goal.decreases-loop-output
decreases-loop-output l = l.row
