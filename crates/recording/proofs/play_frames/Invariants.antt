-- `recording::play_frames` meets its contract. The invariant: whole frames are played up to an index.
use Prim.Native.Nat.{◌-◌}
use mathlib.Core.Path.{◌≡◌}
use lib.ListN.{length}
use Rattle.recording.specs.Frames.{PlayingUp}
use Rattle.recording.proofs.play_frames.Given as goal

abbrev pub invariant-loop-size : goal.invariant-loop-size
invariant-loop-size l = (length l.text ≡ length l.fn.text) × PlayingUp l.fn.start l.octets l.seen l.taken l.text l.end

abbrev pub decreases-loop-size : goal.decreases-loop-size
decreases-loop-size l = length l.octets - l.taken
