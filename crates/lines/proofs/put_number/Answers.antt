-- `lines::put_number` meets its contract: a number below 1,000 by its last digit and those before it.
use native.Mathlib.Omega.{arith}
use Rattle.lines.proofs.Decimal.{decimal-tens}
use Rattle.lines.proofs.Texts.{put_both}
use Rattle.lines.proofs.put_number.Goals as goal

pub returns-then-number-lt1000-clause-appended : goal.returns-then-number-lt1000-clause-appended
returns-then-number-lt1000-clause-appended c =
    rw (decimal-tens c.args.number (omega arith)) (put_both c.put_small-next.ensures.appended c.put_digit.ensures)
