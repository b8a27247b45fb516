use native.Mathlib.Omega.{arith}
use Rattle.rules.specs.Rules.{here, Starts, Obeys}
use Rattle.table.proofs.Decides.{reach_on, row-four, passes-exactly}
use Rattle.table.proofs.Obeyed.{row_ends, row-starts_inside}
use Rattle.table.proofs.LastRow.{is_root}
use Rattle.table.proofs.passed.root.Goals as goal

pub length_at-next-requires : goal.length_at-next-requires
length_at-next-requires c =
    let obeyed : Obeys c.args.table.now = (passes-exactly c.args.table.now).0 c.requires in
    omega (arith, (obeyed).least)

pub loop-next-init : goal.loop-next-init
loop-next-init c =
    let obeyed : Obeys c.args.table.now = (passes-exactly c.args.table.now).0 c.requires in
    ((here, omega (arith, (obeyed).least)), omega arith)

-- the next row, in a turn

pub length_at-requires : goal.length_at-requires
length_at-requires c =
    let obeyed : Obeys c.args.table.now = (passes-exactly c.args.table.now).0 c.requires in
    let next-starts : Starts c.args.table.now c.loop-next.next = let s = c.loop-next.invariant.0 in
    rw c.loop-next.invariant.1 (reach_on s.0 s.1, omega (arith, c.loop-next.invariant.1, c.loop-next-test.true)) in
    (row-starts_inside (obeyed) (next-starts)).0

pub overflow_add-next : goal.overflow_add-next
overflow_add-next c =
    let obeyed : Obeys c.args.table.now = (passes-exactly c.args.table.now).0 c.requires in
    let next-starts : Starts c.args.table.now c.loop-next.next = let s = c.loop-next.invariant.0 in
    rw c.loop-next.invariant.1 (reach_on s.0 s.1, omega (arith, c.loop-next.invariant.1, c.loop-next-test.true)) in
    omega (arith, row_ends (obeyed) (next-starts), (row-starts_inside (obeyed) (next-starts)).1)

pub loop-next-smaller : goal.loop-next-smaller
loop-next-smaller c =
    let obeyed : Obeys c.args.table.now = (passes-exactly c.args.table.now).0 c.requires in
    omega (arith, row-four ((obeyed).rows c.loop-next.at c.loop-next.invariant.0), c.loop-next.invariant.1, c.loop-next-test.true)

pub loop-next-preserved : goal.loop-next-preserved
loop-next-preserved c =
    let next-starts : Starts c.args.table.now c.loop-next.next = let s = c.loop-next.invariant.0 in
    rw c.loop-next.invariant.1 (reach_on s.0 s.1, omega (arith, c.loop-next.invariant.1, c.loop-next-test.true)) in
    (next-starts, omega arith)

pub returns : goal.returns
returns c =
    let obeyed : Obeys c.args.table.now = (passes-exactly c.args.table.now).0 c.requires in
    is_root c.args.table.now (obeyed) c.loop-next.at
    (record { starts = c.loop-next.invariant.0; last = omega (arith, row_ends (obeyed) c.loop-next.invariant.0, c.loop-next.invariant.1, c.loop-next-test.false) })
