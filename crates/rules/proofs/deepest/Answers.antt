use native.Mathlib.Omega.{arith}
use mathlib.Core.Path.{sym, ap, ◌∙◌}
use Prim.Native.Nat.{◌+◌, ◌*◌}
use Rattle.rules.specs.Steps.{spread, kept, deepest_from}
use Rattle.rules.proofs.Loops.{u16s_whole, step_inside, references_next, references-stop, references_end}
use Rattle.rules.proofs.deepest.Goals as goal

pub loop-i-init : goal.loop-i-init
loop-i-init c =
    let a = c.args in
    ap (λ rs. deepest_from (spread a.depths.now) 0 (kept a.reserved rs)) (u16s_whole a.table.now a.step a.from a.n)

pub overflow_mul-step : goal.overflow_mul-step
overflow_mul-step c = record { fits = omega (arith, step_inside c.args.step c.args.n c.loop-i.i c.loop-i-test.true c.requires.0, c.requires.1 (omega arith)) }

pub overflow_add-from : goal.overflow_add-from
overflow_add-from c = record { fits = omega (arith, step_inside c.args.step c.args.n c.loop-i.i c.loop-i-test.true c.requires.0, c.requires.1 (omega arith)) }

pub u16_at-requires : goal.u16_at-requires
u16_at-requires c = omega (arith, step_inside c.args.step c.args.n c.loop-i.i c.loop-i-test.true c.requires.0, c.requires.1 (omega arith))

pub returns-in_err-depth : goal.returns-in_err-depth
returns-in_err-depth c =
    let a = c.args in
    c.from_residual.ensures
    ∙ sym (c.loop-i.invariant
    ∙ references-stop (spread a.depths.now) c.loop-i.depth a.reserved a.table.now a.step a.from a.n c.loop-i.i c.u16_at.result
    c.loop-i-test.true c.u16_at.ensures.0 (sym c.deeper.ensures ∙ c.in_err-depth.was))

pub loop-i-preserved : goal.loop-i-preserved
loop-i-preserved c =
    let a = c.args in
    c.loop-i.invariant
    ∙ references_next (spread a.depths.now) c.loop-i.depth a.reserved a.table.now a.step a.from a.n c.loop-i.i c.u16_at.result
    c.loop-i-test.true c.u16_at.ensures.0 c.in_ok-depth.depth (sym c.deeper.ensures ∙ c.in_ok-depth.was)

pub returns : goal.returns
returns c =
    let a = c.args in
    sym (c.loop-i.invariant ∙ references_end (spread a.depths.now) c.loop-i.depth a.reserved a.table.now a.step (a.from + a.step * c.loop-i.i) _ (omega arith))
