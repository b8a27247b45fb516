-- `row::Row::between` meets its contract. Both tests are the definition's.
use borrow.Author.Tests.{le-leb, lt-leb}
use Rattle.row.specs.Rows.{within}
use Rattle.row.proofs.Row.between.Goals as goal

pub returns-then-least-n : goal.returns-then-least-n
unfolding within
returns-then-least-n c = simp (le-leb _ _ c.if-least-n.true)

pub returns-else-least-n : goal.returns-else-least-n
unfolding within
returns-else-least-n c = simp (lt-leb _ _ c.if-least-n.false)
