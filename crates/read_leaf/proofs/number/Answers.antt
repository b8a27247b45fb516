-- `read_leaf::number` meets its contract. One item, read and kept; its low and span stand in the row.
-- Assumes nothing.
use mathlib.Core.Path.{refl, ap₂, ◌∙◌}
use native.Mathlib.Omega.{arith}
use Rattle.item.specs.Code.{number}
use Rattle.item.proofs.Naturals.{held}
use Rattle.read_steps.proofs.Keeping.{keeping-value, item-refused, reads_one}
use borrow.Author.Rules.{rules}
use Rattle.answer.proofs.Exits.{exit}
use Rattle.items.specs.Items.{one}
use Rattle.read_leaf.proofs.number.Goals as goal

pub returns-in_err-value : goal.returns-in_err-value
unfolding one
returns-in_err-value c =
    let low-held = held c.low_at-low.result (omega (arith, c.low_at-low.ensures.1)) in
    let code = ap₂ number (low-held ∙ c.low_at-low.ensures.0) c.span_at-span.ensures.0 in
    rw (exit _ c.from_residual.ensures.1) (item-refused _ _ refl _ code c.number.ensures c.in_err-value.was)

pub returns : goal.returns
returns c =
    let low-held = held c.low_at-low.result (omega (arith, c.low_at-low.ensures.1)) in
    let code = ap₂ number (low-held ∙ c.low_at-low.ensures.0) c.span_at-span.ensures.0 in
    reads_one c.keep.result (keeping-value _ code (search rules) c.number.ensures c.in_ok-value.was c.keep.ensures)
