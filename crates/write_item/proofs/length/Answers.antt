-- `write_item::length` meets its contract. The form of the length's ones has its bits as one number.
use mathlib.Core.Path.{◌≡◌, ◌∙◌}
use mathlib.Core.Bool.{false}
use Prim.Native.Nat.{◌+◌}
use Rattle.item.specs.Code.{length_within, allows_offset}
use Rattle.item.proofs.Returned.{returned}
use Rattle.write_item.proofs.Written.{measured-length, outside-refused, inside_span, inside_refused, inside_written, length-spelt, length-below, length_above, length-allowed}
use Rattle.write_item.proofs.length.Goals.{then-n-least-via-then-n-least, then-n-least-via-else-n-least+then-most-n}
use Rattle.write_item.proofs.length.Goals as goal

pub returns-in_err-n : goal.returns-in_err-n
returns-in_err-n c =
    let a = c.args in
    let refused = outside-refused (measured-length a.value c.ranges.value a.least a.most c.distance.ensures) a.output.now a.place.0 c.in_err-n.was in
    (returned c.from_residual.result c.from_residual.ensures ∙ refused.0, refused.1)

pub returns-then-n-least : goal.returns-then-n-least
returns-then-n-least c =
    let a = c.args in
    let measured = measured-length a.value c.ranges.value a.least a.most c.distance.ensures in
    let n = c.in_ok-n.n in
    let bad : allows_offset (length_within a.least a.most) n ≡ false =
    elim c.then-n-least.branch [
      | then-n-least-via-then-n-least w ↦ length-below a.least a.most n w.if-n-least.true
      | then-n-least-via-else-n-least+then-most-n w ↦ length_above a.least a.most n w.if-most-n.true
    ] in
    inside_refused measured c.in_ok-n.was a.output.now a.place.0 bad

pub overflow_add-form : goal.overflow_add-form
overflow_add-form c =
    let a = c.args in
    let measured = measured-length a.value c.ranges.value a.least a.most c.distance.ensures in
    record { fits = (length-spelt (inside_span measured c.in_ok-n.was) c.length_ones.ensures.0 c.after_ones-form.ensures).2 }

pub put_bits-requires : goal.put_bits-requires
put_bits-requires c =
    let a = c.args in
    let measured = measured-length a.value c.ranges.value a.least a.most c.distance.ensures in
    let v = length-spelt (inside_span measured c.in_ok-n.was) c.length_ones.ensures.0 c.after_ones-form.ensures in
    (c.requires, v.1, v.0)

pub returns : goal.returns
returns c =
    let a = c.args in
    let measured = measured-length a.value c.ranges.value a.least a.most c.distance.ensures in
    let most = inside_span measured c.in_ok-n.was in
    let form = c.after_ones-form.result in
    let n = c.in_ok-n.n in
    let put = c.put_bits.ensures in
    let w = inside_written measured c.in_ok-n.was a.output.now a.place.0 form.bits (form.leading + n)
    (length-allowed a.least a.most n c.if-n-least.false c.if-most-n.false most)
    (length-spelt most c.length_ones.ensures.0 c.after_ones-form.ensures).3 in
    (put.0 ∙ w.0, put.1 ∙ w.1)
