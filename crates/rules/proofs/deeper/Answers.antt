-- `rules::deeper` meets its contract. Each way out is what one reference gives.
use native.Mathlib.Omega.{arith}
use mathlib.Core.Path.{sym, ◌∙◌}
use Rattle.rules.specs.Steps.{spread}
use Rattle.rules.proofs.Loops.{one_reserved, one_stray, one_deeper}
use Rattle.rules.proofs.deeper.Goals as goal

pub returns-then-is_reserved : goal.returns-then-is_reserved
returns-then-is_reserved c =
    let a = c.args in
    sym (one_reserved a.reserved a.reference (spread a.depths.now) a.depth (sym c.is_reserved.ensures ∙ c.if-is_reserved.true))

pub returns-then-other-eq0 : goal.returns-then-other-eq0
returns-then-other-eq0 c =
    let a = c.args in
    let q = sym c.is_reserved.ensures ∙ c.if-is_reserved.false in
    sym (one_stray a.reserved a.reference (spread a.depths.now) a.depth q (omega arith))

pub returns : goal.returns
returns c =
    let a = c.args in
    let q = sym c.is_reserved.ensures ∙ c.if-is_reserved.false in
    rw (c.max.ensures, c.depth_at-other.ensures)
    (sym (one_deeper a.reserved a.reference (spread a.depths.now) a.depth q (λ z. c.if-other-eq0.false (c.depth_at-other.ensures ∙ z))))
