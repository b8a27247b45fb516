-- `table::passed::root` meets its contract. The loop's invariant: a row starts at `at`, and `next` is where it ends. The measure is what is
-- left of the table.
use Prim.Native.Nat.{◌+◌, ◌-◌}
use mathlib.Core.Path.{◌≡◌}
use lib.ListN.{length}
use Rattle.octets.specs.Numbers.{u16}
use Rattle.rules.specs.Rules.{Starts}
use Rattle.table.proofs.passed.root.Given as goal

abbrev pub invariant-loop-next : goal.invariant-loop-next
invariant-loop-next l = Starts l.table l.at × (l.next ≡ l.at + u16 l.table l.at)

abbrev pub decreases-loop-next : goal.decreases-loop-next
decreases-loop-next l = length l.table - l.at
