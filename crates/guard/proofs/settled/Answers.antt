-- `guard::settled` meets its contract. A table, a choice, or what the test of the rows referred to gives.
-- Assumes nothing.
use mathlib.Core.Path.{◌∙◌}
use native.Mathlib.Omega.{arith}
use Rattle.guard.proofs.Readable.{tested-table, untested, tested-open}
use Rattle.guard.proofs.settled.Goals as goal

pub returns-then-table-le-MOST_TABLE : goal.returns-then-table-le-MOST_TABLE
returns-then-table-le-MOST_TABLE c = let a = c.args in tested-table a.table.now a.at (omega (arith, c.if-table-le-MOST_TABLE.true))

pub kind_at-requires : goal.kind_at-requires
kind_at-requires c = c.requires.row.start

pub returns-then-kind_at-eq-CHOICE : goal.returns-then-kind_at-eq-CHOICE
returns-then-kind_at-eq-CHOICE c = let a = c.args in untested a.table.now a.at (omega (arith, c.if-table-le-MOST_TABLE.false))

pub opens-requires : goal.opens-requires
opens-requires c = c.requires.state (omega (arith, c.if-table-le-MOST_TABLE.false))

pub returns : goal.returns
returns c =
    let a = c.args in
    tested-open a.table.now a.at _ (omega (arith, c.if-table-le-MOST_TABLE.false)) (λ e. c.if-kind_at-eq-CHOICE.false (c.kind_at.ensures.0 ∙ e)) c.opens.ensures
