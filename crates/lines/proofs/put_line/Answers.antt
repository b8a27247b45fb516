-- `lines::put_line` meets its contract: its three texts, one after another.
use Rattle.lines.specs.Text.{number_line}
use Rattle.lines.proofs.Texts.{put_both}
use Rattle.lines.proofs.put_line.Goals as goal

pub returns-clause-appended : goal.returns-clause-appended
unfolding number_line
returns-clause-appended c = put_both c.put_text-first.ensures (put_both c.put_number-end.ensures.appended c.put_text.ensures)
