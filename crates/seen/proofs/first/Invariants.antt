-- `seen::first`: what is left of the list from the place on has its first wanted record where the whole list has its own.
use Rattle.std.proofs.Common.{◌≡◌, ◌+◌, drop}
use Rattle.seen.specs.Records.{first_with}
use Rattle.seen.specs.Search.{wanted_by}
use Rattle.seen.proofs.first.Given as goal

abbrev pub invariant-loop-i : goal.invariant-loop-i
invariant-loop-i l = l.i + first_with (wanted_by l.want) (drop l.i l.seen) ≡ first_with (wanted_by l.want) l.seen
