-- `write_item::distance` meets its contract. The tests come before the subtraction, so the distance is from 0 to the span.
use native.Mathlib.Omega.{arith}
use mathlib.Core.Path.{◌≡◌}
use lib.IntN.{◌-ℤ◌}
use Rattle.std.proofs.Common.{None}
use Rattle.item.proofs.Integers.{sum_fits}
use Rattle.write_item.specs.Steps.{within}
use Rattle.write_item.proofs.Gaps.{code_below, code_above, gap_fits, gap-cast, gap_within}
use Rattle.write_item.proofs.distance.Goals.{then-value-low-via-then-value-low, then-value-low-via-else-value-low+then-high-value}
use Rattle.write_item.proofs.distance.Goals as goal

pub overflow_add-high : goal.overflow_add-high
overflow_add-high c = rw c.from.ensures (sum_fits c.args.low c.args.span c.requires (omega arith))

pub returns-then-value-low : goal.returns-then-value-low
returns-then-value-low c =
    let a = c.args in
    let none : within a.span (a.value -ℤ a.low) ≡ None =
    elim c.then-value-low.branch [
      | then-value-low-via-then-value-low w ↦ code_below a.value a.low a.span c.ranges.value c.requires (omega arith) w.if-value-low.true
      | then-value-low-via-else-value-low+then-high-value w ↦
          code_above a.value a.low a.span c.ranges.value c.requires (omega arith) (rw c.from.ensures at w.if-high-value.true)
    ] in
    rw none

pub overflow_sub-result : goal.overflow_sub-result
overflow_sub-result c =
    gap_fits c.args.value c.args.low c.args.span c.ranges.value c.requires (omega arith) c.if-value-low.false (rw c.from.ensures at c.if-high-value.false)

pub overflow_cast-result : goal.overflow_cast-result
overflow_cast-result c =
    gap-cast c.args.value c.args.low c.args.span c.ranges.value c.requires (omega arith) c.if-value-low.false (rw c.from.ensures at c.if-high-value.false)

pub returns : goal.returns
returns c =
    gap_within c.args.value c.args.low c.args.span c.ranges.value c.requires (omega arith) c.if-value-low.false (rw c.from.ensures at c.if-high-value.false)
