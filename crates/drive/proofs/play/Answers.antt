-- `drive::play` meets its contract: its tests are the definition's, and each line is as short as it is promised.
use Prim.Native.Nat.{◌-◌}
use mathlib.Core.Path.{◌≡◌}
use native.Mathlib.Omega.{arith}
use borrow.Author.Rules.{rules}
use borrow.Author.Tests.{eq-eqb, le-leb}
use lib.ListN.{length, take, drop, length-drop}
use lib.Seq.{take_all}
use Rattle.forward.specs.Forward.{lowered}
use Rattle.drive.specs.Replay.{any_frame, heard_kind, heard_header, message_of, time_of, frame_line, list_after}
use Rattle.drive.proofs.Lengths.{kind-line, few, lowered-size, step_line_lem}
use Rattle.drive.proofs.play.Goals as goal

-- another kind
pub returns-then-kind-ne-HEARD-clause-seen_value : goal.returns-then-kind-ne-HEARD-clause-seen_value
unfolding frame_line list_after
returns-then-kind-ne-HEARD-clause-seen_value c = search rules

pub returns-then-kind-ne-HEARD-clause-end_bound : goal.returns-then-kind-ne-HEARD-clause-end_bound
returns-then-kind-ne-HEARD-clause-end_bound c =
    let kind = c.u16_at-kind in
    omega (arith, c.put_kind-end.ensures.appended.counted, kind-line kind.result kind.ensures.1, c.requires)

-- too short for a time
pub returns-then-frame-lt-HEADER-clause-seen_value : goal.returns-then-frame-lt-HEADER-clause-seen_value
unfolding frame_line list_after
returns-then-frame-lt-HEADER-clause-seen_value c = search rules

-- a message
pub returns-clause-seen_value : goal.returns-clause-seen_value
unfolding frame_line list_after
returns-clause-seen_value c =
    let frame = c.args.frame.now in
    let rest : take (length frame - 8) (drop 8 frame) ≡ drop 8 frame = take_all (length frame - 8) (drop 8 frame) (omega (arith, length-drop 8 frame)) in
    let put = rw (rest, c.u32_at-time.ensures.0) at c.put_heard.ensures in
    let kind = c.u16_at-kind in
    let heard = eq-eqb kind.result heard_kind c.if-kind-ne-HEARD.false in
    let long = le-leb heard_header (length frame) c.if-frame-lt-HEADER.false in
    (rw (← kind.ensures.0, heard, long) put.0, rw (← kind.ensures.0, heard, long) put.1)

pub returns-clause-end_bound : goal.returns-clause-end_bound
returns-clause-end_bound c =
    let frame = c.args.frame.now in
    let rest : take (length frame - 8) (drop 8 frame) ≡ drop 8 frame = take_all (length frame - 8) (drop 8 frame) (omega (arith, length-drop 8 frame)) in
    let put = rw (rest, c.u32_at-time.ensures.0) at c.put_heard.ensures in
    let few-octets = step_line_lem (lowered (message_of frame)) (few (message_of frame) (time_of frame) c.args.seen any_frame) in
    omega (arith, put.1.counted, few-octets, lowered-size (message_of frame), length-drop 8 frame, c.if-frame-lt-HEADER.false)
