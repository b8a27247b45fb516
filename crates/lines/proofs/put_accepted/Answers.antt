-- `lines::put_accepted` meets its contract: its five texts, one after another.
use Rattle.lines.specs.Text.{accepted_line}
use Rattle.lines.proofs.Texts.{put_both}
use Rattle.lines.proofs.put_accepted.Goals as goal

pub returns-clause-appended : goal.returns-clause-appended
unfolding accepted_line
returns-clause-appended c =
    put_both c.put_text-number.ensures
    (put_both c.put_number-colon.ensures.appended (put_both c.put_text-list.ensures (put_both c.put_values-end.ensures.appended c.put_text.ensures)))
