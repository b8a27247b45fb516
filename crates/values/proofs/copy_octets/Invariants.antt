-- The invariant: the octets of the turns stand in the slice.
use Rattle.std.proofs.Common.{◌≡◌}
use Rattle.std.proofs.Math.Seq.{paste}
use Rattle.values.proofs.copy_octets.Given as goal

abbrev pub invariant-loop-at : goal.invariant-loop-at
invariant-loop-at l = l.octets ≡ paste l.initial.octets l.from l.copied l.at
