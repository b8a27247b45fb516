-- Laws of a whole unit among the octets at hand.
use Prim.Native.Nat.{ℕ, ◌+◌, ◌-◌, ◌≤◌}
use mathlib.Core.Path.{◌≡◌, sym}
use mathlib.Core.List.{List}
use native.Mathlib.Omega.{arith}
use lib.ListN.{length, take, drop}
use lib.Seq.{length-take-le, take-take}
use Rattle.buffers.specs.declared.State.{State}
use Rattle.buffers.specs.Held.{Held, at_hand}
use Rattle.buffers.proofs.AtHand.{length-at_hand}

-- it stands where the octets at hand begin
pub unit_at_hand : (s : State) (input : List ℕ) (size : ℕ) → s.from + size ≤ s.end
    → take (s.from + size - s.from) (drop s.from input) ≡ take size (at_hand s input)
unit_at_hand s input size h =
    let e : s.from + size - s.from ≡ size = omega arith in
    rw e (sym (take-take size (s.end - s.from) (drop s.from input) (omega arith)))

pub length-unit : (s : State) (input : List ℕ) (size : ℕ) → Held s → length input ≡ 65536 → s.from + size ≤ s.end
    → length (take size (at_hand s input)) ≡ size
length-unit s input size held whole h = length-take-le size (at_hand s input) (omega (arith, held.ordered, length-at_hand s input held whole))
