-- `lines::put_value` meets its contract. A value's sign tells which of the two notations it has.
use mathlib.Core.Path.{ap, ◌∙◌}
use lib.IntN.{nat_abs}
use mir.Facts.{to_z-of_z}
use Rattle.values.proofs.Complement.{negative, positive}
use Rattle.lines.proofs.Signs.{signed-negative, signed-positive}
use Rattle.lines.proofs.Texts.{put_both}
use Rattle.lines.proofs.put_value.Goals as goal

pub returns-then-value-lt0-clause-appended : goal.returns-then-value-lt0-clause-appended
returns-then-value-lt0-clause-appended c =
    let k = negative c.args.value c.ranges.value c.if-value-lt0.true in
    let size = c.unsigned_abs.ensures.value ∙ ap nat_abs (to_z-of_z c.ranges.value) in
    rw (signed-negative c.args.value k) (rw size at (put_both c.put_text-next.ensures c.put_number.ensures.appended))

pub returns-else-value-lt0-clause-appended : goal.returns-else-value-lt0-clause-appended
returns-else-value-lt0-clause-appended c =
    let k = positive c.args.value c.ranges.value c.if-value-lt0.false in
    let size = c.unsigned_abs-else-value-lt0.ensures.value ∙ ap nat_abs (to_z-of_z c.ranges.value) in
    rw (signed-positive c.args.value k) (rw size at c.put_number-else-value-lt0.ensures.appended)
