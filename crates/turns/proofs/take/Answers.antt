-- `turns::take` meets its contract: the unit's line is put behind the others, and what is held stays within the buffers.
use mathlib.Core.Path.{◌≡◌, ap}
use native.Mathlib.Omega.{arith}
use lib.ListN.{length, take}
use Rattle.buffers.specs.declared.Led.TheVariants.{Next}
use Rattle.buffers.specs.Held.{at_hand, held_behind}
use Rattle.turns.proofs.Units.{unit_at_hand, length-unit}
use Rattle.turns.proofs.take.Goals as goal

pub returns : goal.returns
returns c =
    let s = c.args.s in
    let input = c.args.input.now in
    let size = c.args.size in
    let held = c.requires.held.0 in
    let unit = unit_at_hand s input size c.requires.held.1 in
    let put = rw unit at c.put_unit-lines.ensures in
    let lines = c.put_unit-lines.result in
    let state : c.after.result ≡ held_behind s (length (take size (at_hand s input))) lines = rw (length-unit s input size held c.requires.input_len.0 c.requires.held.1) c.after.ensures in (
      rw c.after.ensures (record { ordered = c.requires.held.1; within = held.within; room = omega (arith, put.upper_bound, c.requires.held.3) }),
      record { lines = lines; state = ap Next state; line = put.appended; next = rw unit at c.next.ensures },
    )
