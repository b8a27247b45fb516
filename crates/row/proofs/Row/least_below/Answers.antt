-- `row::Row::least_below` meets its contract. The test is the definition's.
use borrow.Author.Tests.{ne_eqb}
use Rattle.row.specs.Kinds.{least_below}
use Rattle.row.proofs.Row.least_below.Goals as goal

pub returns-then-kind-eq-CHOICE : goal.returns-then-kind-eq-CHOICE
unfolding least_below
returns-then-kind-eq-CHOICE c = rw c.if-kind-eq-CHOICE.true

pub returns-else-kind-eq-CHOICE : goal.returns-else-kind-eq-CHOICE
unfolding least_below
returns-else-kind-eq-CHOICE c = simp (ne_eqb _ _ c.if-kind-eq-CHOICE.false)
