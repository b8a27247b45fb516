-- `drive::put_heard` meets its contract: the step puts the forwarded octets behind the room for the first half of their digits, and the line is
-- told of them.
use Prim.Native.Nat.{ℕ}
use mathlib.Core.Path.{◌≡◌, ap, ◌∙◌}
use mathlib.Core.List.{List}
use native.Mathlib.Omega.{arith}
use lib.ListN.{length}
use Rattle.answer.specs.Numbers.{Answer}
use Rattle.forward.specs.Forward.{forward_answer, seen_by}
use Rattle.forwarding.specs.declared.Forwarded.{Forwarded}
use Rattle.forwarding.specs.Forwarded.{forwarded_in}
use Rattle.drive.proofs.Heard.{same_room, step-octets, lent-size, put_there, told-from}
use Rattle.drive.proofs.put_heard.Goals as goal

pub returns : goal.returns
returns c =
    let a = c.args in
    let m = a.message.now in
    let out = a.out.now in
    let n = length m in
    let e : List ℕ = c.forward_in-answer.new.output in
    let size = lent-size out a.at n (omega (arith, c.requires.1)) in
    let many : length e ≡ n = c.forward_in-answer.auto.output ∙ size in
    let gave = rw size at c.forward_in-answer.ensures in
    let room = same_room m a.time a.seen (omega (arith, c.requires.0)) in
    let answer = ap (λ (x : Forwarded). x.answer) {y = forwarded_in m a.time a.seen n} gave.0 in
    let list = ap (λ (x : Forwarded). x.seen) {y = forwarded_in m a.time a.seen n} gave.0 in
    let put = told-from out e _ a.at n many (omega (arith, c.requires.1)) c.put_step-end.ensures in
    let there = rw (put_there out e _ a.at n many (omega (arith, c.requires.1))) at put in
    let line = rw (answer, gave.1) at there in (
      ◌∙◌ {b = seen_by (forward_answer m a.time a.seen n) m a.time a.seen} list (ap (λ (x : Answer). seen_by x m a.time a.seen) room),
      rw (← room, ← step-octets _ m) line,
    )
