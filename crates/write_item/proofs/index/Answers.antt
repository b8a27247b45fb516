-- `write_item::index` meets its contract. An index below m fits the width of m - 1.
use native.Mathlib.Omega.{arith}
use mathlib.Core.Path.{sym, ap, ◌∙◌}
use Prim.Native.Nat.{◌-◌}
use Rattle.bits.specs.Bits.{width, bits_of}
use Rattle.bits.proofs.Bits.{width_above}
use Rattle.item.proofs.Branches.{length-branches}
use Rattle.item.proofs.Returned.{returned}
use Rattle.write_item.proofs.Written.{measured-index, outside-refused, inside_span, inside_refused, inside_written}
use Rattle.write_item.proofs.index.Goals as goal

pub returns-in_err-n : goal.returns-in_err-n
returns-in_err-n c =
    let a = c.args in
    let refused = outside-refused (measured-index a.value c.ranges.value a.table.now a.from a.m c.requires.1 c.distance.ensures) a.output.now a.place.0 c.in_err-n.was in
    (returned c.from_residual.result c.from_residual.ensures ∙ refused.0, refused.1)

pub returns-then-not-has_branch : goal.returns-then-not-has_branch
returns-then-not-has_branch c =
    let a = c.args in
    let measured = measured-index a.value c.ranges.value a.table.now a.from a.m c.requires.1 c.distance.ensures in
    inside_refused measured c.in_ok-n.was a.output.now a.place.0
    (sym c.has_branch.ensures ∙ c.if-not-has_branch.true)

pub put_bits-requires : goal.put_bits-requires
put_bits-requires c =
    let a = c.args in
    let measured = measured-index a.value c.ranges.value a.table.now a.from a.m c.requires.1 c.distance.ensures in
    let most = inside_span measured c.in_ok-n.was in
    (c.requires.0, c.width.ensures.1, rw c.width.ensures.0 (omega (arith, width_above (a.m - 1))))

pub returns : goal.returns
returns c =
    let a = c.args in
    let measured = measured-index a.value c.ranges.value a.table.now a.from a.m c.requires.1 c.distance.ensures in
    let n = c.in_ok-n.n in
    let put = c.put_bits.ensures in
    let w = inside_written measured c.in_ok-n.was a.output.now a.place.0 c.width.result n
    (sym c.has_branch.ensures ∙ c.if-not-has_branch.false)
    (ap (λ m. bits_of (width (m - 1)) n) (length-branches a.table.now a.from a.m) ∙ ap (λ j. bits_of j n) (sym c.width.ensures.0)) in
    (put.0 ∙ w.0, put.1 ∙ w.1)
