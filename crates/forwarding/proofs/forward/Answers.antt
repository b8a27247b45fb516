-- `forwarding::forward` meets its contract.
use mathlib.Core.Path.{◌∙◌, ap}
use lib.ListN.{length}
use Rattle.answer.specs.Numbers.{Answer}
use Rattle.forward.specs.Forward.{output_by}
use Rattle.forward.proofs.Together.{answer_is, list_is, emits}
use Rattle.forwarding.proofs.forward.Goals as goal

pub emit-requires : goal.emit-requires
emit-requires c =
    let a = c.args in
    let m = a.message.now in
    let n = length a.output.now in
    rw (answer_is m a.time a.seen.now n c.asked-ask.ensures c.remember-answer.ensures.0) (emits m a.time a.seen.now n)

pub returns : goal.returns
returns c =
    let a = c.args in
    let m = a.message.now in
    let n = length a.output.now in
    let e = c.asked-ask.ensures in
    let answer = answer_is m a.time a.seen.now n e c.remember-answer.ensures.0 in
    (c.emit.ensures.0 ∙ answer, list_is m a.time a.seen.now n e c.remember-answer.ensures.1, c.emit.ensures.1 ∙ ap (λ (k : Answer). output_by k m n) answer)
