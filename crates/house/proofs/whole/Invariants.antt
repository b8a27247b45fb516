-- `house::whole` meets its contract. The invariant: what whole frames take is what those up to here took, and what those behind take.
use Prim.Native.Nat.{◌+◌, ◌-◌, ◌≤◌}
use mathlib.Core.Path.{◌≡◌}
use lib.ListN.{length, drop}
use Rattle.house.specs.House.{whole_frames}
use Rattle.house.proofs.whole.Given as goal

abbrev pub invariant-loop-size : goal.invariant-loop-size
invariant-loop-size l = (l.at ≤ length l.octets) × (whole_frames l.octets ≡ l.at + whole_frames (drop l.at l.octets))

abbrev pub decreases-loop-size : goal.decreases-loop-size
decreases-loop-size l = length l.octets - l.at
