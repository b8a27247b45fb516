-- `write_leaf::variable` meets its contract. One value, put by its code.
-- Assumes nothing.
use mathlib.Core.Path.{refl}
use borrow.Author.Rules.{rules}
use Rattle.item.specs.Code.{variable}
use Rattle.items.specs.Items.{stop, one}
use Rattle.item.proofs.Naturals.{held}
use Rattle.item.proofs.Returned.{returned}
use Rattle.write_steps.proofs.Putting.{putting, first_missing, writes_one}
use Rattle.write_leaf.proofs.variable.Goals as goal

pub returns-in_err-value : goal.returns-in_err-value
unfolding one
returns-in_err-value c =
    rw (returned _ c.from_residual.ensures) (first_missing variable (λ v. stop) refl c.next_value.result c.next_value.ensures c.in_err-value.was)

pub returns : goal.returns
returns c =
    writes_one c.moved.result
    (putting variable c.next_value.result c.variable-put.result _ _ refl c.next_value.ensures c.in_ok-value.was (held c.in_ok-value.value (search rules)) c.variable-put.ensures c.moved.ensures)
