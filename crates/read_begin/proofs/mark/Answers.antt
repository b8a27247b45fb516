-- `read_begin::mark` meets its contract. By the flag, and by the presence bit.
-- Assumes nothing.
use Prim.Native.Nat.{◌+◌, ◌*◌, ◌%◌}
use mathlib.Core.Path.{◌≡◌, refl, sym, ◌∙◌}
use native.Mathlib.Omega.{arith}
use borrow.Author.Tests.{ne_eqb}
use lib.IntN.{pos}
use Rattle.item.specs.Code.{number, natural}
use Rattle.read_steps.proofs.Keeping.{keeping-value, count-held, item-refused}
use Rattle.read_begin.proofs.Beginnings.{marked_rest, marks-always, marks-refused, marks-bit}
use borrow.Author.Rules.{rules}
use Rattle.answer.proofs.Exits.{exit}
use Rattle.parts.proofs.Records.{presence-optional}
use Rattle.read_begin.proofs.mark.Goals as goal

pub returns-then-flag-eq0 : goal.returns-then-flag-eq0
returns-then-flag-eq0 c =
    let a = c.args in
    marks-always a.flag a.mask _ c.if-flag-eq0.true refl

pub returns-in_err-bit : goal.returns-in_err-bit
returns-in_err-bit c =
    rw (exit _ c.from_residual.ensures.1) (λ flags k. item-refused _ (marked_rest flags k) (presence-optional c.args.flag flags k c.if-flag-eq0.false) (number (pos 0) 1) refl c.number.ensures c.in_err-bit.was)

pub returns-in_err-next : goal.returns-in_err-next
returns-in_err-next c =
    let bit-kept = keeping-value (number (pos 0) 1) refl (search rules) c.number.ensures c.in_ok-bit.was c.keep.ensures in
    rw (exit _ c.from_residual-in_err-next.ensures.1) (marks-refused c.if-flag-eq0.false bit-kept c.in_err-next.was)

pub returns-then-count_of-eq1 : goal.returns-then-count_of-eq1
returns-then-count_of-eq1 c =
    let a = c.args in
    let bit-kept = keeping-value (number (pos 0) 1) refl (search rules) c.number.ensures c.in_ok-bit.was c.keep.ensures in
    let odd : (a.mask * 2 + 1) % 2 ≡ 1 = omega arith in
    let one : natural c.in_ok-bit.bit ≡ 1 = sym (count-held c.in_ok-bit.bit (search rules) c.count_of.ensures) ∙ c.if-count_of-eq1.true in
    marks-bit c.if-flag-eq0.false bit-kept a.mask (a.mask * 2 + 1) c.in_ok-next.was (omega arith) (rw (odd, one))

pub returns : goal.returns
returns c =
    let a = c.args in
    let bit-kept = keeping-value (number (pos 0) 1) refl (search rules) c.number.ensures c.in_ok-bit.was c.keep.ensures in
    let even : (a.mask * 2) % 2 ≡ 0 = omega arith in
    marks-bit c.if-flag-eq0.false bit-kept a.mask (a.mask * 2) c.in_ok-next.was
    (omega arith) (rw (even, ne_eqb (natural c.in_ok-bit.bit) 1 (λ e. c.if-count_of-eq1.false (count-held c.in_ok-bit.bit (search rules) c.count_of.ensures ∙ e))))
