use native.Mathlib.Omega.{arith}
use mathlib.Core.Path.{◌≡◌, sym, ap, ◌∙◌}
use lib.ListN.{length}
use Rattle.std.proofs.Common.{of_calls, Err}
use Rattle.answer.specs.Numbers.{reason_number, refusal_at}
use Rattle.item.proofs.Returned.{returned, mapped-Ok, mapped-Err}
use Rattle.table.specs.Faults.{Fault, too_small, too_large}
use Rattle.table.proofs.Walk.{walk_begins, row-passed, row-refused}
use Rattle.table.proofs.Found.{finds-fault, finds-rows}
use Rattle.table.proofs.pass.pass.Goals.{then-table-lt-LEAST_TABLE-via-then-table-lt-LEAST_TABLE, then-table-lt-LEAST_TABLE-via-else-table-lt-LEAST_TABLE+then-table-gt-MOST_TABLE}
use Rattle.table.proofs.pass.pass.Goals as goal

pub returns-then-table-lt-LEAST_TABLE : goal.returns-then-table-lt-LEAST_TABLE
returns-then-table-lt-LEAST_TABLE c =
    let t = c.args.table.now in
    let fault : Fault t 1 0 =
    elim c.then-table-lt-LEAST_TABLE.branch [
      | then-table-lt-LEAST_TABLE-via-then-table-lt-LEAST_TABLE w ↦ too_small w.if-table-lt-LEAST_TABLE.true
      | then-table-lt-LEAST_TABLE-via-else-table-lt-LEAST_TABLE+then-table-gt-MOST_TABLE w ↦ too_large w.if-table-gt-MOST_TABLE.true
    ] in
    let f = finds-fault t _ 1 0 fault in
    (ap Err c.at_place.ensures ∙ f.0, f.1)

-- the walk's beginning

pub loop-left-init : goal.loop-left-init
loop-left-init c = (omega arith, walk_begins c.args.table.now c.args.depths.now c.requires)

pub returns-in_err-length : goal.returns-in_err-length
returns-in_err-length c =
    let t = c.args.table.now in
    let at = c.loop-left.at in
    let met = mapped-Err _ c.row_test-test.result c.map_err.result c.map_err.ensures.cases c.in_err-length.was in
    let told = met.2 in
    let is : c.in_err-length.field-0.0 ≡ refusal_at (reason_number met.0) at = search of_calls in
    let b = row-refused c.loop-left.invariant.1 (omega (arith, c.loop-left.invariant.0, c.loop-left-test.true)) c.if-table-gt-MOST_TABLE.false c.if-table-lt-LEAST_TABLE.false met.0 (sym c.row_test-test.ensures ∙ met.1) in
    let f = finds-fault t c.loop-left.depths (reason_number met.0) at b in
    (returned c.from_residual.result c.from_residual.ensures ∙ ap Err is ∙ f.0, f.1)

-- a row that passes

pub bounds-depths-at : goal.bounds-depths-at
bounds-depths-at c = omega (arith, c.loop-left.invariant.0, c.loop-left.invariant.1.sized, c.loop-left-test.true)

pub overflow_add-rows : goal.overflow_add-rows
overflow_add-rows c = omega (arith, c.loop-left.invariant.0, c.loop-left.invariant.1.few, c.if-table-gt-MOST_TABLE.false)

pub overflow_add-at : goal.overflow_add-at
overflow_add-at c =
    let passed = sym c.row_test-test.ensures ∙ mapped-Ok _ c.row_test-test.result c.map_err.result c.map_err.ensures.cases c.in_ok-length.was in
    let on = row-passed c.loop-left.invariant.1 (omega (arith, c.loop-left.invariant.0, c.loop-left-test.true)) c.if-table-gt-MOST_TABLE.false c.in_ok-length.length c.in_ok-length.depth passed in
    record { fits = omega (arith, on.ends) }

pub overflow_sub-left : goal.overflow_sub-left
overflow_sub-left c =
    let passed = sym c.row_test-test.ensures ∙ mapped-Ok _ c.row_test-test.result c.map_err.result c.map_err.ensures.cases c.in_ok-length.was in
    let on = row-passed c.loop-left.invariant.1 (omega (arith, c.loop-left.invariant.0, c.loop-left-test.true)) c.if-table-gt-MOST_TABLE.false c.in_ok-length.length c.in_ok-length.depth passed in
    omega (arith, on.ends, c.loop-left.invariant.0)

pub loop-left-smaller : goal.loop-left-smaller
loop-left-smaller c =
    let passed = sym c.row_test-test.ensures ∙ mapped-Ok _ c.row_test-test.result c.map_err.result c.map_err.ensures.cases c.in_ok-length.was in
    let on = row-passed c.loop-left.invariant.1 (omega (arith, c.loop-left.invariant.0, c.loop-left-test.true)) c.if-table-gt-MOST_TABLE.false c.in_ok-length.length c.in_ok-length.depth passed in
    omega (arith, on.ends, on.four, c.loop-left.invariant.0)

pub loop-left-preserved : goal.loop-left-preserved
loop-left-preserved c =
    let passed = sym c.row_test-test.ensures ∙ mapped-Ok _ c.row_test-test.result c.map_err.result c.map_err.ensures.cases c.in_ok-length.was in
    let on = row-passed c.loop-left.invariant.1 (omega (arith, c.loop-left.invariant.0, c.loop-left-test.true)) c.if-table-gt-MOST_TABLE.false c.in_ok-length.length c.in_ok-length.depth passed in
    (omega (arith, on.ends, c.loop-left.invariant.0), on.walked)

pub returns : goal.returns
returns c =
    let e : c.loop-left.at ≡ length c.args.table.now = omega (arith, c.loop-left.invariant.0, c.loop-left-test.false) in
    finds-rows c.if-table-lt-LEAST_TABLE.false c.if-table-gt-MOST_TABLE.false (rw e at c.loop-left.invariant.1)
