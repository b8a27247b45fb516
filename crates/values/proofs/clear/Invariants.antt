-- The invariant: the part from the index on begins with the zeroes of the turns.
use Rattle.std.proofs.Common.{◌≡◌, replicate}
use Rattle.std.proofs.Math.Seq.{paste}
use Rattle.values.proofs.clear.Given as goal

abbrev pub invariant-loop-item : goal.invariant-loop-item
invariant-loop-item g l = l.item-items ≡ paste l.initial.item-items 0 (replicate l.item-index l.zero) l.item-index
