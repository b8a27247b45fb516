-- `read_leaf::variable` meets its contract. One item, read and kept.
-- Assumes nothing.
use mathlib.Core.Path.{refl}
use Rattle.item.specs.Code.{variable}
use Rattle.read_steps.proofs.Keeping.{keeping-value, item-refused, reads_one}
use borrow.Author.Rules.{rules}
use Rattle.answer.proofs.Exits.{exit}
use Rattle.items.specs.Items.{one}
use Rattle.read_leaf.proofs.variable.Goals as goal

pub returns-in_err-value : goal.returns-in_err-value
unfolding one
returns-in_err-value c =
    rw (exit _ c.from_residual.ensures.1) (item-refused variable _ refl variable refl c.variable.ensures c.in_err-value.was)

pub returns : goal.returns
returns c =
    reads_one c.keep.result (keeping-value variable refl (search rules) c.variable.ensures c.in_ok-value.was c.keep.ensures)
