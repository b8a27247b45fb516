-- `stream::put_last_lines` meets its contract. There is room for the last lines behind those that are held.
use native.Mathlib.Omega.{arith}
use Rattle.lines.proofs.Texts.{put-nothing}
use Rattle.stream.proofs.put_last_lines.Goals as goal

pub put_ended-requires : goal.put_ended-requires
put_ended-requires c =
    let pre = c.requires in
    omega (arith, pre.2, rw c.in-Next.is at pre.0)

pub slice_bounds-put_ended-count : goal.slice_bounds-put_ended-count
slice_bounds-put_ended-count c =
    (rw c.in-End.is at c.requires.0).ordered

pub put_ended-requires-in-End : goal.put_ended-requires-in-End
put_ended-requires-in-End c =
    let pre = c.requires in
    omega (arith, pre.2, rw c.in-End.is at pre.0)

pub put_stopped-requires : goal.put_stopped-requires
put_stopped-requires c =
    let pre = c.requires in
    omega (arith, pre.2, rw c.in-Stop.is at pre.0)

pub returns-in-Next : goal.returns-in-Next
returns-in-Next c =
    let pre = c.requires in
    let is = c.in-Next.is in
    let p = c.put_ended.ensures in
    rw is (record { appended = p.appended; upper_bound = omega (arith, p.upper_bound, rw is at pre.0) })

pub returns-in-End : goal.returns-in-End
returns-in-End c =
    let pre = c.requires in
    let is = c.in-End.is in
    let p = c.put_ended-in-End.ensures in
    rw is (record { appended = p.appended; upper_bound = omega (arith, p.upper_bound, rw is at pre.0) })

pub returns-in-Stop : goal.returns-in-Stop
returns-in-Stop c =
    let pre = c.requires in
    let is = c.in-Stop.is in
    let p = c.put_stopped.ensures in
    rw is (record { appended = p.appended; upper_bound = omega (arith, p.upper_bound, rw is at pre.0) })

pub returns-in-Lost : goal.returns-in-Lost
returns-in-Lost c = rw c.in-Lost.is (record { appended = put-nothing c.args.output.now 0; upper_bound = omega arith })
