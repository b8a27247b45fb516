-- `forwarding::forward_in` meets its contract.
use mathlib.Core.List.{List}
use mathlib.Core.Path.{◌∙◌, ap, ap₂}
use lib.ListN.{length}
use Rattle.answer.specs.Numbers.{Answer}
use Rattle.seen.specs.declared.Seen.{Seen}
use Rattle.forward.specs.Forward.{output_by}
use Rattle.forward.proofs.Together.{answer_is, list_is, emits}
use Rattle.forwarding.specs.declared.Forwarded.{Forwarded}
use Rattle.forwarding.proofs.forward_in.Goals as goal

pub emit-answer-requires : goal.emit-answer-requires
emit-answer-requires c =
    let a = c.args in
    let m = a.message.now in
    let n = length a.output.now in
    rw (answer_is m a.time a.seen n c.asked-ask.ensures (ap (λ (k : Forwarded). k.answer) c.remember_in-answer.ensures)) (emits m a.time a.seen n)

pub returns : goal.returns
returns c =
    let a = c.args in
    let m = a.message.now in
    let n = length a.output.now in
    let e = c.asked-ask.ensures in
    let kept = c.remember_in-answer.ensures in
    let answer = answer_is m a.time a.seen n e (ap (λ (k : Forwarded). k.answer) kept) in
    let list = list_is m a.time a.seen n e (ap (λ (k : Forwarded). k.seen) kept) in (
      ap₂ {C = Forwarded} (λ (x : Answer) (rs : List Seen). record { seen = rs; answer = x }) (c.emit-answer.ensures.0 ∙ answer) list,
      c.emit-answer.ensures.1 ∙ ap (λ (k : Answer). output_by k m n) answer,
    )
