-- `table::pass::pass` meets its contract. The loop's invariant: what is known at `at` of a walk over the rows, with the depths, the rows
-- and the last row so far. The measure is what is left of the table. Assumes nothing.
use Prim.Native.Nat.{◌+◌}
use mathlib.Core.Path.{◌≡◌}
use lib.ListN.{length}
use Rattle.table.proofs.Walk.{Walked}
use Rattle.table.proofs.pass.pass.Given as goal

abbrev pub invariant-loop-left : goal.invariant-loop-left
invariant-loop-left l = (l.at + l.left ≡ length l.table) × Walked l.table l.at l.depths l.rows l.root

abbrev pub decreases-loop-left : goal.decreases-loop-left
decreases-loop-left l = l.left
