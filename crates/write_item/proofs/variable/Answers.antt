-- `write_item::variable` meets its contract. The form of the number's ones has its bits as one number.
use borrow.Author.Tests.{le-leb}
use mathlib.Core.Path.{◌∙◌}
use Prim.Native.Nat.{◌+◌, ◌-◌}
use Rattle.item.proofs.Returned.{returned}
use Rattle.write_item.proofs.Written.{measured-variable, outside-refused, inside_span, inside_written, variable-spelt}
use Rattle.write_item.proofs.variable.Goals as goal

pub returns-in_err-n : goal.returns-in_err-n
returns-in_err-n c =
    let a = c.args in
    let refused = outside-refused (measured-variable a.value c.ranges.value c.distance.ensures) a.output.now a.place.0 c.in_err-n.was in
    (returned c.from_residual.result c.from_residual.ensures ∙ refused.0, refused.1)

pub overflow_sub-n : goal.overflow_sub-n
overflow_sub-n c =
    let a = c.args in
    let measured = measured-variable a.value c.ranges.value c.distance.ensures in
    (variable-spelt (inside_span measured c.in_ok-n.was) c.variable_ones.ensures.0 c.after_ones-form.ensures).0

pub overflow_add-form : goal.overflow_add-form
overflow_add-form c =
    let a = c.args in
    let measured = measured-variable a.value c.ranges.value c.distance.ensures in
    record { fits = (variable-spelt (inside_span measured c.in_ok-n.was) c.variable_ones.ensures.0 c.after_ones-form.ensures).3 }

pub put_bits-requires : goal.put_bits-requires
put_bits-requires c =
    let a = c.args in
    let measured = measured-variable a.value c.ranges.value c.distance.ensures in
    let v = variable-spelt (inside_span measured c.in_ok-n.was) c.variable_ones.ensures.0 c.after_ones-form.ensures in
    (c.requires, v.2, v.1)

pub returns : goal.returns
returns c =
    let a = c.args in
    let measured = measured-variable a.value c.ranges.value c.distance.ensures in
    let most = inside_span measured c.in_ok-n.was in
    let form = c.after_ones-form.result in
    let n = c.in_ok-n.n in
    let put = c.put_bits.ensures in
    let w = inside_written measured c.in_ok-n.was a.output.now a.place.0 form.bits (form.leading + (n - form.base))
    (le-leb n 270549119 most) (variable-spelt most c.variable_ones.ensures.0 c.after_ones-form.ensures).4 in
    (put.0 ∙ w.0, put.1 ∙ w.1)
