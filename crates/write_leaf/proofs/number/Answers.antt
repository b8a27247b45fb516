-- `write_leaf::number` meets its contract. One value, put by its code, whose low and span the row holds.
-- Assumes nothing.
use Prim.Native.Nat.{◌+◌}
use mathlib.Core.Path.{◌≡◌, refl, ap₂, ◌∙◌}
use native.Mathlib.Omega.{arith}
use borrow.Author.Rules.{rules}
use mir.Syntax.{w64}
use mir.Val.{to_z, of_z}
use Rattle.octets.specs.Numbers.{u32, signed}
use Rattle.item.specs.Code.{number}
use Rattle.items.specs.Items.{stop, one}
use Rattle.item.proofs.Naturals.{held}
use Rattle.item.proofs.Returned.{returned}
use Rattle.write_steps.proofs.Putting.{putting, first_missing, writes_one}
use Rattle.write_leaf.proofs.number.Goals as goal

pub returns-in_err-value : goal.returns-in_err-value
unfolding one
returns-in_err-value c =
    let a = c.args in
    rw (returned _ c.from_residual.ensures)
    (first_missing (number (signed (u32 a.table.now (a.at + 4))) (u32 a.table.now (a.at + 8))) (λ v. stop) refl
    c.next_value.result c.next_value.ensures c.in_err-value.was)

pub returns : goal.returns
returns c =
    let low_held : to_z w64 (of_z w64 c.low_at-low.result) ≡ c.low_at-low.result = held c.low_at-low.result (omega (arith, c.low_at-low.ensures.1)) in
    let code = ap₂ number (low_held ∙ c.low_at-low.ensures.0) c.span_at-span.ensures.0 in
    writes_one c.moved.result
    (putting _ c.next_value.result c.number-put.result _ _ code c.next_value.ensures c.in_ok-value.was (held c.in_ok-value.value (search rules)) c.number-put.ensures c.moved.ensures)
