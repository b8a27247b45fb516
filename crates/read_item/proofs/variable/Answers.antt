-- `read_item::variable` meets its contract. Each way out is one outcome of the item; the ones of the first octet decide.
use native.Mathlib.Omega.{arith}
use mathlib.Core.Path.{sym, ap, ◌∙◌}
use mathlib.Core.Bool.{Bool}
use mathlib.Core.List.{List}
use Prim.Native.Nat.{suc, ◌+◌, ◌-◌, ◌*◌}
use lib.ListN.{drop}
use mir.Syntax.{w64}
use Rattle.std.proofs.Common.{Ok, Err}
use Rattle.std.proofs.lemmas.Int.{to_z_pos}
use Rattle.bits.specs.Bits.{unpack}
use Rattle.item.proofs.Returned.{returned}
use Rattle.read_item.proofs.Outcomes.{front-Ok, front-Err, front-Bits, variable-short, variable-starts_1111, variable-cut, variable_is, variable_one_octet}
use Rattle.read_item.proofs.variable.Goals as goal

pub returns-in_err-first : goal.returns-in_err-first
returns-in_err-first c =
    let p = c.args.place.0 in
    let b : List Bool = drop p (unpack c.args.message.now) in
    let e = front-Err b p 8 (sym c.octet_at.ensures ∙ c.in_err-first.was) in
    returned c.from_residual.result c.from_residual.ensures ∙ ap Err (sym e.1) ∙ sym (variable-short b p e.0)

pub ones_of-ones-requires : goal.ones_of-ones-requires
ones_of-ones-requires c =
    let p = c.args.place.0 in
    let b : List Bool = drop p (unpack c.args.message.now) in
    (front-Bits b p 8 (front-Ok b p 8 (sym c.octet_at.ensures ∙ c.in_ok-first.was))).below

pub returns-then-ones-eq0 : goal.returns-then-ones-eq0
returns-then-ones-eq0 c =
    let p = c.args.place.0 in
    let b : List Bool = drop p (unpack c.args.message.now) in
    let e = front-Ok b p 8 (sym c.octet_at.ensures ∙ c.in_ok-first.was) in
    let small = (front-Bits b p 8 e).below in
    rw c.from.ensures (ap (λ z. Ok (z, c.in_ok-first.next)) (to_z_pos w64 c.in_ok-first.first (omega arith)))
    ∙ sym (variable_one_octet b p e c.ones_of-ones.result c.ones_of-ones.ensures c.if-ones-eq0.true)

pub returns-then-ones-gt3 : goal.returns-then-ones-gt3
returns-then-ones-gt3 c =
    let p = c.args.place.0 in
    let b : List Bool = drop p (unpack c.args.message.now) in
    let e = front-Ok b p 8 (sym c.octet_at.ensures ∙ c.in_ok-first.was) in
    ap Err c.at_place.ensures ∙ sym (variable-starts_1111 b p e c.ones_of-ones.result c.ones_of-ones.ensures c.if-ones-gt3.true)

pub returns-in_err-n : goal.returns-in_err-n
returns-in_err-n c =
    let p = c.args.place.0 in
    let b : List Bool = drop p (unpack c.args.message.now) in
    let e = front-Ok b p 8 (sym c.octet_at.ensures ∙ c.in_ok-first.was) in
    let g = front-Err b p (8 * suc c.ones_of-ones.result) (rw c.after_ones-form.ensures.0 at (sym c.bits_at.ensures ∙ c.in_err-n.was)) in
    returned c.from_residual-in_err-n.result c.from_residual-in_err-n.ensures
    ∙ ap Err (sym g.1)
    ∙ sym (variable-cut b p e c.ones_of-ones.result c.ones_of-ones.ensures (omega arith) g.0)

pub overflow_sub-n : goal.overflow_sub-n
overflow_sub-n c =
    let p = c.args.place.0 in
    let b : List Bool = drop p (unpack c.args.message.now) in
    let e = front-Ok b p 8 (sym c.octet_at.ensures ∙ c.in_ok-first.was) in
    let g = front-Ok b p c.after_ones-form.result.bits (sym c.bits_at.ensures ∙ c.in_ok-n.was) in
    (variable_is b p e c.ones_of-ones.result c.ones_of-ones.ensures (omega arith) c.after_ones-form.ensures g).0

pub overflow_add-form : goal.overflow_add-form
overflow_add-form c =
    let p = c.args.place.0 in
    let b : List Bool = drop p (unpack c.args.message.now) in
    let e = front-Ok b p 8 (sym c.octet_at.ensures ∙ c.in_ok-first.was) in
    let g = front-Ok b p c.after_ones-form.result.bits (sym c.bits_at.ensures ∙ c.in_ok-n.was) in
    let most = (variable_is b p e c.ones_of-ones.result c.ones_of-ones.ensures (omega arith) c.after_ones-form.ensures g).1 in
    record { fits = omega arith }

pub returns : goal.returns
returns c =
    let p = c.args.place.0 in
    let b : List Bool = drop p (unpack c.args.message.now) in
    let form = c.after_ones-form.result in
    let e = front-Ok b p 8 (sym c.octet_at.ensures ∙ c.in_ok-first.was) in
    let g = front-Ok b p form.bits (sym c.bits_at.ensures ∙ c.in_ok-n.was) in
    let v = variable_is b p e c.ones_of-ones.result c.ones_of-ones.ensures (omega arith) c.after_ones-form.ensures g in
    rw c.from-2.ensures (ap (λ z. Ok (z, c.in_ok-n.after)) (to_z_pos w64 (form.base + (c.in_ok-n.n - form.leading)) (omega (arith, v.1))))
    ∙ sym v.2
