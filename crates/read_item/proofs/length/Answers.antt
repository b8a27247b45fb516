-- `read_item::length` meets its contract. Each way out is one outcome of the item; a length has one one in front or none.
use native.Mathlib.Omega.{arith}
use mathlib.Core.Path.{◌≡◌, sym, ap, ◌∙◌}
use mathlib.Core.Bool.{Bool}
use mathlib.Core.List.{List}
use Prim.Native.Nat.{suc, ◌*◌}
use lib.ListN.{drop}
use Rattle.std.proofs.Common.{Err}
use Rattle.bits.specs.Bits.{unpack}
use Rattle.item.specs.Code.{least_of}
use Rattle.item.proofs.Returned.{returned}
use Rattle.read_item.proofs.Outcomes.{front-Ok, front-Err, front-Bits, length-short, length-starts_11, length_cut, length-worth, length_is, length_one_octet}
use Rattle.read_item.proofs.length.Goals as goal

pub returns-in_err-first : goal.returns-in_err-first
returns-in_err-first c =
    let a = c.args in
    let p = a.place.0 in
    let b : List Bool = drop p (unpack a.message.now) in
    let e = front-Err b p 8 (sym c.octet_at.ensures ∙ c.in_err-first.was) in
    returned c.from_residual.result c.from_residual.ensures ∙ ap Err (sym e.1) ∙ sym (length-short a.least a.most b p e.0)

pub ones_of-ones-requires : goal.ones_of-ones-requires
ones_of-ones-requires c =
    let p = c.args.place.0 in
    let b : List Bool = drop p (unpack c.args.message.now) in
    (front-Bits b p 8 (front-Ok b p 8 (sym c.octet_at.ensures ∙ c.in_ok-first.was))).below

pub returns-then-ones-eq0 : goal.returns-then-ones-eq0
returns-then-ones-eq0 c =
    let a = c.args in
    let p = a.place.0 in
    let b : List Bool = drop p (unpack a.message.now) in
    let e = front-Ok b p 8 (sym c.octet_at.ensures ∙ c.in_ok-first.was) in
    c.bounded.ensures ∙ sym (length_one_octet a.least a.most b p e c.ones_of-ones.result c.ones_of-ones.ensures c.if-ones-eq0.true)

pub returns-then-ones-gt1 : goal.returns-then-ones-gt1
returns-then-ones-gt1 c =
    let a = c.args in
    let p = a.place.0 in
    let b : List Bool = drop p (unpack a.message.now) in
    let e = front-Ok b p 8 (sym c.octet_at.ensures ∙ c.in_ok-first.was) in
    ap Err c.at_place.ensures ∙ sym (length-starts_11 a.least a.most b p e c.ones_of-ones.result c.ones_of-ones.ensures c.if-ones-gt1.true)

pub returns-in_err-n : goal.returns-in_err-n
returns-in_err-n c =
    let a = c.args in
    let p = a.place.0 in
    let b : List Bool = drop p (unpack a.message.now) in
    let e = front-Ok b p 8 (sym c.octet_at.ensures ∙ c.in_ok-first.was) in
    let g = front-Err b p (8 * suc c.ones_of-ones.result) (rw c.after_ones-form.ensures.0 at (sym c.bits_at.ensures ∙ c.in_err-n.was)) in
    returned c.from_residual-in_err-n.result c.from_residual-in_err-n.ensures
    ∙ ap Err (sym g.1)
    ∙ sym (length_cut a.least a.most b p e c.ones_of-ones.result c.ones_of-ones.ensures (omega arith) g.0)

pub overflow_sub-length : goal.overflow_sub-length
overflow_sub-length c =
    let a = c.args in
    let p = a.place.0 in
    let b : List Bool = drop p (unpack a.message.now) in
    let e = front-Ok b p 8 (sym c.octet_at.ensures ∙ c.in_ok-first.was) in
    let g = front-Ok b p c.after_ones-form.result.bits (sym c.bits_at.ensures ∙ c.in_ok-n.was) in
    length-worth a.least a.most b p e c.ones_of-ones.result c.ones_of-ones.ensures (omega arith) c.after_ones-form.ensures g

pub returns : goal.returns
returns c =
    let a = c.args in
    let p = a.place.0 in
    let b : List Bool = drop p (unpack a.message.now) in
    let one : c.ones_of-ones.result ≡ 1 = omega (arith, c.if-ones-eq0.false) in
    let short : least_of c.ones_of-ones.result ≡ 128 = rw one in
    let e = front-Ok b p 8 (sym c.octet_at.ensures ∙ c.in_ok-first.was) in
    let g = front-Ok b p c.after_ones-form.result.bits (sym c.bits_at.ensures ∙ c.in_ok-n.was) in
    let is = length_is a.least a.most b p e c.ones_of-ones.result c.ones_of-ones.ensures (omega arith) c.after_ones-form.ensures g in
    c.bounded-2.ensures ∙ sym (rw short at is)
