-- `lm_fields::address` meets its contract. A variable number, read and kept.
-- Assumes nothing.
use mathlib.Core.Path.{refl}
use borrow.Author.Rules.{rules}
use Rattle.answer.proofs.Exits.{exit}
use Rattle.item.specs.Code.{variable}
use Rattle.items.specs.Items.{one}
use Rattle.read_steps.proofs.Keeping.{keeping-value, item-refused, reads_one}
use Rattle.lm_items.specs.Asked.{field_items}
use Rattle.lm_fields.proofs.address.Goals as goal

pub returns-in_err-value : goal.returns-in_err-value
unfolding field_items one
returns-in_err-value c =
    rw (exit _ c.from_residual.ensures.1) (item-refused variable _ refl variable refl c.variable.ensures c.in_err-value.was)

pub returns : goal.returns
unfolding field_items
returns c =
    reads_one c.keep.result (keeping-value variable refl (search rules) c.variable.ensures c.in_ok-value.was c.keep.ensures)
