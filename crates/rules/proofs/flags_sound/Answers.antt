use native.Mathlib.Omega.{arith}
use mathlib.Core.Path.{◌≡◌, sym, ap, ◌∙◌}
use Prim.Native.Nat.{◌+◌, ◌-◌, ◌*◌}
use Rattle.octets.specs.Numbers.{u16s}
use Rattle.rules.specs.Rules.{flags_in_bounds}
use Rattle.rules.proofs.Loops.{u16s_whole, flag-wrong, flag-right}
use Rattle.rules.proofs.flags_sound.Goals as goal

pub loop-i-init : goal.loop-i-init
loop-i-init c = ap flags_in_bounds (u16s_whole c.args.table.now 4 c.args.from c.args.n)

pub u16_at-requires : goal.u16_at-requires
u16_at-requires c = omega (arith, c.requires (omega arith))

pub returns-then-u16_at-gt-OPTIONAL : goal.returns-then-u16_at-gt-OPTIONAL
returns-then-u16_at-gt-OPTIONAL c = sym (c.loop-i.invariant ∙ flag-wrong c.args.table.now c.args.from c.args.n c.loop-i.i c.loop-i-test.true (omega arith))

pub loop-i-preserved : goal.loop-i-preserved
loop-i-preserved c = c.loop-i.invariant ∙ flag-right c.args.table.now c.args.from c.args.n c.loop-i.i c.loop-i-test.true (omega arith)

pub returns : goal.returns
unfolding u16s flags_in_bounds
returns c =
    let none : c.args.n - c.loop-i.i ≡ 0 = omega arith in
    sym (c.loop-i.invariant ∙ ap (λ m. flags_in_bounds (u16s c.args.table.now (c.args.from + 4 * c.loop-i.i) 4 m)) none)
