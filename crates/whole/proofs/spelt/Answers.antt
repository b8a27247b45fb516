-- `whole::spelt` meets its contract. Each octet more counts 256 times less.
-- Assumes nothing.
use Prim.Native.Nat.{ℕ}
use mathlib.Core.Path.{◌≡◌, sym, ◌∙◌}
use native.Mathlib.Omega.{arith}
use Rattle.whole.proofs.Octets.{one_octet, two-octets, three-octets}
use Rattle.whole.proofs.spelt.Goals as goal

pub returns-then-octets-eq1 : goal.returns-then-octets-eq1
returns-then-octets-eq1 c =
    let a = c.args in
    let m = a.message.now in
    let octets = λ (i : ℕ). (c.type_inv.message i).fits in
    let first = c.octet_inside-one.ensures in
    rw c.if-octets-eq1.true (first.0 ∙ sym (one_octet m octets a.at (omega arith)), omega (arith, first.1))

pub returns-then-octets-eq2 : goal.returns-then-octets-eq2
returns-then-octets-eq2 c =
    let a = c.args in
    let m = a.message.now in
    let octets = λ (i : ℕ). (c.type_inv.message i).fits in
    let first = c.octet_inside-one.ensures in
    let second = c.octet_inside.ensures in
    rw c.if-octets-eq2.true (rw (first.0, second.0) (sym (two-octets m octets a.at (omega arith))), omega (arith, first.1, second.1))

pub returns : goal.returns
returns c =
    let a = c.args in
    let m = a.message.now in
    let octets = λ (i : ℕ). (c.type_inv.message i).fits in
    let first = c.octet_inside-one.ensures in
    let second = c.octet_inside.ensures in
    let third = c.octet_inside-2.ensures in
    let n : a.octets ≡ 3 = omega (arith, c.if-octets-eq2.false, c.if-octets-eq1.false) in
    rw n (rw (first.0, second.0, third.0) (sym (three-octets m octets a.at (omega arith))), omega (arith, first.1, second.1, third.1))
