-- `values::copy_octets` meets its contract. The octets are copied one by one.
use Rattle.std.proofs.Common.{◌∙◌, ◌≡◌, length, ap, arith}
use Rattle.std.proofs.lemmas.List.Edits.{paste_more}
use Rattle.std.proofs.Math.Seq.{paste}
use Rattle.values.proofs.copy_octets.Goals as goal

pub loop-at-preserved : goal.loop-at-preserved
loop-at-preserved c = rw c.loop-at.invariant (paste_more c.args.octets.now c.args.from c.args.copied.now c.loop-at.at 0 (omega arith) (omega arith))

pub returns : goal.returns
returns c =
    let a = c.args in
    let all : c.loop-at.at ≡ length a.copied.now = omega arith in
    c.loop-at.invariant ∙ ap (paste a.octets.now a.from a.copied.now) all
