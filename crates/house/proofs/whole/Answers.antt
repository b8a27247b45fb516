use mathlib.Core.Path.{sym, ◌∙◌}
use native.Mathlib.Nat.{add-zero}
use native.Mathlib.Omega.{arith}
use lib.ListN.{drop}
use Rattle.house.proofs.Wholes.{whole_none, octets_behind, frame_behind}
use Rattle.house.proofs.whole.Goals as goal

pub loop-size-preserved : goal.loop-size-preserved
loop-size-preserved c =
    let n = frame_behind c.args.octets.now c.loop-size.at c.in-Whole.size c.front.result c.loop-size.invariant c.front.ensures.value c.in-Whole.is in
    (n.1, n.2)

pub loop-size-smaller : goal.loop-size-smaller
loop-size-smaller c =
    let n = frame_behind c.args.octets.now c.loop-size.at c.in-Whole.size c.front.result c.loop-size.invariant c.front.ensures.value c.in-Whole.is in
    omega (arith, n.0, n.1)

pub returns : goal.returns
returns c =
    let octets = c.args.octets.now in
    let told = rw (octets_behind octets c.loop-size.at) at c.front.ensures.value in
    (sym (c.loop-size.invariant.1 ∙ rw (whole_none (drop c.loop-size.at octets) (λ size e. c.in_default.not-Whole size (told ∙ e))) (add-zero c.loop-size.at)), c.loop-size.invariant.0)
