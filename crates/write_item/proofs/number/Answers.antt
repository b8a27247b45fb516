-- `write_item::number` meets its contract. The distance is at most the span, so it fits the span's width.
use borrow.Author.Tests.{le-leb}
use native.Mathlib.Omega.{arith}
use mathlib.Core.Path.{sym, ap, ◌∙◌}
use Rattle.bits.specs.Bits.{bits_of}
use Rattle.bits.proofs.Bits.{width_above}
use Rattle.item.proofs.Returned.{returned}
use Rattle.write_item.proofs.Written.{measured-number, outside-refused, inside_span, inside_written}
use Rattle.write_item.proofs.number.Goals as goal

pub returns-in_err-n : goal.returns-in_err-n
returns-in_err-n c =
    let a = c.args in
    let refused = outside-refused (measured-number a.value c.ranges.value a.low a.span c.requires.1 c.distance.ensures) a.output.now a.place.0 c.in_err-n.was in
    (returned c.from_residual.result c.from_residual.ensures ∙ refused.0, refused.1)

pub put_bits-requires : goal.put_bits-requires
put_bits-requires c =
    let a = c.args in
    let measured = measured-number a.value c.ranges.value a.low a.span c.requires.1 c.distance.ensures in
    let most = inside_span measured c.in_ok-n.was in
    (c.requires.0, c.width.ensures.1, rw c.width.ensures.0 (omega (arith, width_above a.span)))

pub returns : goal.returns
returns c =
    let a = c.args in
    let measured = measured-number a.value c.ranges.value a.low a.span c.requires.1 c.distance.ensures in
    let n = c.in_ok-n.n in
    let put = c.put_bits.ensures in
    let w = inside_written measured c.in_ok-n.was a.output.now a.place.0 c.width.result n
    (le-leb n a.span (inside_span measured c.in_ok-n.was)) (ap (λ k. bits_of k n) (sym c.width.ensures.0)) in
    (put.0 ∙ w.0, put.1 ∙ w.1)
