-- `row::Row::flag_count` meets its contract. The test is the definition's.
use borrow.Author.Tests.{ne_eqb}
use Rattle.row.specs.Kinds.{flag_count}
use Rattle.row.proofs.Row.flag_count.Goals as goal

pub returns-then-kind-eq-RECORD : goal.returns-then-kind-eq-RECORD
unfolding flag_count
returns-then-kind-eq-RECORD c = rw c.if-kind-eq-RECORD.true

pub returns-else-kind-eq-RECORD : goal.returns-else-kind-eq-RECORD
unfolding flag_count
returns-else-kind-eq-RECORD c = simp (ne_eqb _ _ c.if-kind-eq-RECORD.false)
