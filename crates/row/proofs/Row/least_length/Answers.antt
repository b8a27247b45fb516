-- `row::Row::least_length` meets its contract. The test is the definition's.
use borrow.Author.Tests.{ne_eqb}
use Rattle.row.specs.Kinds.{least_length}
use Rattle.row.proofs.Row.least_length.Goals as goal

pub returns-then-kind-eq-OPEN_OCTETS : goal.returns-then-kind-eq-OPEN_OCTETS
unfolding least_length
returns-then-kind-eq-OPEN_OCTETS c = rw c.if-kind-eq-OPEN_OCTETS.true

pub returns-else-kind-eq-OPEN_OCTETS : goal.returns-else-kind-eq-OPEN_OCTETS
unfolding least_length
returns-else-kind-eq-OPEN_OCTETS c = simp (ne_eqb _ _ c.if-kind-eq-OPEN_OCTETS.false)
