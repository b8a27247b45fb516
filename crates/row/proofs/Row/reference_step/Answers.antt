-- `row::Row::reference_step` meets its contract. The test is the definition's.
use borrow.Author.Tests.{ne_eqb}
use Rattle.row.specs.Kinds.{reference_step}
use Rattle.row.proofs.Row.reference_step.Goals as goal

pub returns-then-kind-eq-RECORD : goal.returns-then-kind-eq-RECORD
unfolding reference_step
returns-then-kind-eq-RECORD c = rw c.if-kind-eq-RECORD.true

pub returns-else-kind-eq-RECORD : goal.returns-else-kind-eq-RECORD
unfolding reference_step
returns-else-kind-eq-RECORD c = simp (ne_eqb _ _ c.if-kind-eq-RECORD.false)
