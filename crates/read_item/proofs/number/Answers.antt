-- `read_item::number` meets its contract. Each way out is one outcome of the item, and low with 32 bits added fits 64.
use native.Mathlib.Omega.{arith}
use mathlib.Core.Path.{sym, ap, ◌∙◌}
use mathlib.Core.Bool.{Bool}
use mathlib.Core.List.{List}
use lib.ListN.{drop}
use Rattle.std.proofs.Common.{Ok, Err}
use Rattle.bits.specs.Bits.{width, unpack}
use Rattle.item.proofs.Integers.{sum_fits, sum_is}
use Rattle.item.proofs.Returned.{returned}
use Rattle.read_item.proofs.Outcomes.{front-Ok, front-Err, number_short, number-over, number_is}
use Rattle.read_item.proofs.number.Goals as goal

pub returns-in_err-n : goal.returns-in_err-n
returns-in_err-n c =
    let a = c.args in
    let b : List Bool = drop a.place.0 (unpack a.message.now) in
    let e = front-Err b a.place.0 (width a.span) (rw c.width.ensures.0 at (sym c.bits_at.ensures ∙ c.in_err-n.was)) in
    returned c.from_residual.result c.from_residual.ensures ∙ ap Err (sym e.1) ∙ sym (number_short a.low a.span b a.place.0 e.0)

pub returns-then-span-n : goal.returns-then-span-n
returns-then-span-n c =
    let a = c.args in
    let b : List Bool = drop a.place.0 (unpack a.message.now) in
    let e = front-Ok b a.place.0 (width a.span) (rw c.width.ensures.0 at (sym c.bits_at.ensures ∙ c.in_ok-n.was)) in
    ap Err c.at_place.ensures ∙ sym (number-over a.low a.span b a.place.0 e c.if-span-n.true)

pub overflow_add-value : goal.overflow_add-value
overflow_add-value c =
    let a = c.args in
    rw c.from.ensures (sum_fits a.low c.in_ok-n.n (omega arith) (omega arith))

pub returns : goal.returns
returns c =
    let a = c.args in
    let b : List Bool = drop a.place.0 (unpack a.message.now) in
    let e = front-Ok b a.place.0 (width a.span) (rw c.width.ensures.0 at (sym c.bits_at.ensures ∙ c.in_ok-n.was)) in
    rw c.from.ensures (ap (λ z. Ok (z, c.in_ok-n.next)) (sum_is a.low c.in_ok-n.n (omega arith) (omega arith)))
    ∙ sym (number_is a.low a.span b a.place.0 e c.if-span-n.false)
