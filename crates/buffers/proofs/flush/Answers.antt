-- What is held stays within the buffers, whatever the output took.
use mathlib.Core.Bool.{Bool, true, false}
use native.Mathlib.Omega.{arith}
use Rattle.buffers.specs.declared.State.{State}
use Rattle.buffers.specs.Held.{Held, HeldAfter}
use Rattle.buffers.specs.InputOutput.{after_write}
use Rattle.buffers.proofs.flush.Goals as goal

held_after : (written : Bool) {s : State} → Held s → HeldAfter (after_write written s)
held_after true held = record { ordered = held.ordered; within = held.within; room = omega arith }
held_after false held = tt

pub returns : goal.returns
returns c =
    let is = c.after_write.ensures in
    (rw is (held_after c.write.result c.requires.0), (c.write.result, is))
