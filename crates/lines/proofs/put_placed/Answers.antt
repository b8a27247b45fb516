-- `lines::put_placed` meets its contract: its three texts, one after another.
use Rattle.lines.specs.Text.{placed_line}
use Rattle.lines.proofs.Texts.{put_both}
use Rattle.lines.proofs.put_placed.Goals as goal

pub returns-clause-appended : goal.returns-clause-appended
unfolding placed_line
returns-clause-appended c = put_both c.put_text-first.ensures (put_both c.put_number-middle.ensures.appended c.put_line.ensures.appended)
