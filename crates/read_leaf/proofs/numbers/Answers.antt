-- `read_leaf::numbers` meets its contract. The numbers' low and span stand in the row; from 0 to 255 they are octets.
-- Assumes nothing.
use mathlib.Core.Path.{◌≡◌, sym, ap, ◌∙◌}
use native.Mathlib.Omega.{arith}
use mir.Syntax.{w64}
use mir.Val.{to_z}
use lib.IntN.{pos}
use Rattle.item.proofs.Naturals.{held}
use Rattle.read_leaf.proofs.numbers.Goals as goal

pub returns-then-low-eq0 : goal.returns-then-low-eq0
returns-then-low-eq0 c =
    let low-held = held c.low_at-low.result (omega (arith, c.low_at-low.ensures.1)) in
    let zero : c.low_at-low.result ≡ pos 0 = sym low-held ∙ ap (to_z w64) c.if-low-eq0.true in
    rw (← c.low_at-low.ensures.0, ← c.span_at-span.ensures.0, zero, c.if-span-eq255.true) c.read_octets.ensures

pub returns : goal.returns
returns c =
    let low-held = held c.low_at-low.result (omega (arith, c.low_at-low.ensures.1)) in
    rw (← c.low_at-low.ensures.0, ← c.span_at-span.ensures.0) (rw low-held at c.read_numbers.ensures)
