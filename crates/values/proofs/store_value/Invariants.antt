-- The invariant: the octets of the turns stand in the place of those of the index.
use Rattle.std.proofs.Common.{◌≡◌}
use Rattle.std.proofs.Math.Seq.{paste}
use Rattle.values.proofs.store_value.Given as goal

abbrev pub invariant-loop-i : goal.invariant-loop-i
invariant-loop-i l = l.octets ≡ paste l.initial.octets l.from l.octet-items l.i
