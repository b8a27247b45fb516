-- `lines::put_small` meets its contract: one digit, or two.
use Prim.Native.Nat.{◌/◌}
use native.Mathlib.Omega.{arith}
use Rattle.lines.proofs.Decimal.{decimal_digit, decimal-tens}
use Rattle.lines.proofs.Texts.{put_both}
use Rattle.lines.proofs.put_small.Goals as goal

pub returns-then-number-lt10-clause-appended : goal.returns-then-number-lt10-clause-appended
returns-then-number-lt10-clause-appended c = rw (decimal_digit c.args.number c.if-number-lt10.true) c.put_digit.ensures

pub returns-else-number-lt10-clause-appended : goal.returns-else-number-lt10-clause-appended
returns-else-number-lt10-clause-appended c =
    let number = c.args.number in
    rw (decimal-tens number c.if-number-lt10.false, decimal_digit (number / 10) (omega (arith, c.requires.1)))
    (put_both c.put_digit-next.ensures c.put_digit-else-number-lt10.ensures)
