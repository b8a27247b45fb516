-- `write_begin::mark` meets its contract. By the flag, and by the presence value.
-- Assumes nothing.
use Prim.Native.Nat.{◌+◌, ◌*◌, ◌%◌}
use mathlib.Core.Path.{◌≡◌, refl, sym, ◌∙◌}
use native.Mathlib.Omega.{arith}
use borrow.Author.Rules.{rules}
use borrow.Author.Tests.{ne_eqb}
use lib.IntN.{pos}
use mir.Syntax.{w64}
use mir.Val.{to_z, of_z}
use Rattle.item.specs.Code.{number, natural}
use Rattle.item.proofs.Naturals.{held}
use Rattle.item.proofs.Returned.{returned}
use Rattle.write_steps.proofs.Putting.{putting}
use Rattle.write_begin.proofs.Beginnings.{marks-always, marks-missing, marks-refused, marks-bit}
use Rattle.write_begin.proofs.mark.Goals as goal

pub returns-then-flag-eq0 : goal.returns-then-flag-eq0
returns-then-flag-eq0 c = marks-always c.args.flag c.args.mask _ c.if-flag-eq0.true refl

pub returns-in_err-value : goal.returns-in_err-value
returns-in_err-value c =
    rw (returned _ c.from_residual.ensures) (marks-missing c.if-flag-eq0.false c.next_value.result c.next_value.ensures c.in_err-value.was)

pub returns-in_err-next : goal.returns-in_err-next
returns-in_err-next c =
    rw (returned _ c.from_residual-in_err-next.ensures)
    (marks-refused c.if-flag-eq0.false
    (putting (number (pos 0) 1) c.next_value.result c.number-put.result _ _ refl c.next_value.ensures c.in_ok-value.was
    (held c.in_ok-value.value (search rules)) c.number-put.ensures c.moved.ensures)
    c.in_err-next.was)

pub returns-then-count_of-eq1 : goal.returns-then-count_of-eq1
returns-then-count_of-eq1 c =
    let mask = c.args.mask in
    let held-value : to_z w64 (of_z w64 c.in_ok-value.value) ≡ c.in_ok-value.value = held c.in_ok-value.value (search rules) in
    let odd : (mask * 2 + 1) % 2 ≡ 1 = omega arith in
    let one : natural c.in_ok-value.value ≡ 1 = sym (rw held-value at c.count_of.ensures) ∙ c.if-count_of-eq1.true in
    marks-bit c.if-flag-eq0.false mask (mask * 2 + 1)
    (putting (number (pos 0) 1) c.next_value.result c.number-put.result _ _ refl c.next_value.ensures c.in_ok-value.was held-value c.number-put.ensures c.moved.ensures)
    c.in_ok-next.was (omega arith) (rw (odd, one))

pub returns : goal.returns
returns c =
    let mask = c.args.mask in
    let held-value : to_z w64 (of_z w64 c.in_ok-value.value) ≡ c.in_ok-value.value = held c.in_ok-value.value (search rules) in
    let even : (mask * 2) % 2 ≡ 0 = omega arith in
    let count = rw held-value at c.count_of.ensures in
    marks-bit c.if-flag-eq0.false mask (mask * 2)
    (putting (number (pos 0) 1) c.next_value.result c.number-put.result _ _ refl c.next_value.ensures c.in_ok-value.was held-value c.number-put.ensures c.moved.ensures)
    c.in_ok-next.was (omega arith) (rw (even, ne_eqb (natural c.in_ok-value.value) 1 (λ e. c.if-count_of-eq1.false (count ∙ e))))
