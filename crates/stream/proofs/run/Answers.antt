use Prim.Native.Nat.{◌+◌}
use mathlib.Core.Path.{◌∙◌}
use mathlib.Core.List.{[]}
use native.Mathlib.Omega.{arith}
use Rattle.stream.specs.Program.{start, turn}
use Rattle.stream.proofs.Running.{more}
use Rattle.stream.proofs.run.Goals as goal

pub loop-init : goal.loop-init
loop-init c =
    let a = c.args in
    let pre = c.requires in (
      record { ordered = omega arith; within = omega arith; room = omega arith },
      pre.0,
      pre.1,
      pre.2,
      record { octets = []; text = []; ran = start a.input.now a.output.now },
    )

pub loop-preserved : goal.loop-preserved
loop-preserved c =
    let next = rw c.in-Next.is at c.turn-turned.ensures in
    (next.0, c.turn-turned.auto.input ∙ c.loop.invariant.1, c.turn-turned.auto.output ∙ c.loop.invariant.2, c.turn-turned.auto.values ∙ c.loop.invariant.3, more c.loop.invariant.4 next.1)

pub returns-in_default : goal.returns-in_default
returns-in_default c =
    let so = c.loop.invariant.4 in
    let t = c.turn-turned.ensures in (
      t.0,
      record { octets = _; text = _; turns = c.loop.counter + 1; ran = turn so.ran t.1; all = λ s e. absurd (c.in_default.not-Next s e) },
    )

pub returns : goal.returns
returns c =
    let so = c.loop.invariant.4 in
    (c.loop.invariant.0, record { octets = so.octets; text = so.text; turns = c.loop.counter; ran = so.ran; all = λ s e. omega arith })
