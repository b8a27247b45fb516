-- `frames::put_message` meets its contract: each kind is read by its name, and its answer told.
use borrow.Author.Rules.{rules}
use mathlib.Core.Path.{◌∙◌}
use lib.ListN.{length}
use Rattle.encoding.specs.Reading.{read_outcome}
use Rattle.builtin.specs.Tables.{sam, srm}
use Rattle.lm.specs.ByName.{read_lm_outcome}
use Rattle.frames.specs.Frames.{message_line}
use Rattle.lines.proofs.Told.{line-told}
use Rattle.frames.proofs.put_message.Goals as goal
use Rattle.frames.proofs.put_message.Goals.{in-1, in-2, in-3}

pub returns-in_default-clause-appended : goal.returns-in_default-clause-appended
unfolding message_line
returns-in_default-clause-appended c = search rules

pub returns-clause-appended : goal.returns-clause-appended
unfolding message_line
returns-clause-appended c =
    let m = c.args.message.now in
    let room = length c.args.values.now in
    let told = c.put_answer.ensures.appended in
    elim c.match-kind.branch [
      | in-1 w ↦ rw w.in-1.is (line-told (read_lm_outcome m room) room (w.answer-is ∙ w.read_lm-answer.ensures.0, w.values-is ∙ w.read_lm-answer.ensures.1) told)
      | in-2 w ↦ rw w.in-2.is (line-told (read_outcome sam m room) room (w.answer-is ∙ w.read_sam-answer.ensures.0, w.values-is ∙ w.read_sam-answer.ensures.1) told)
      | in-3 w ↦ rw w.in-3.is (line-told (read_outcome srm m room) room (w.answer-is ∙ w.read_srm-answer.ensures.0, w.values-is ∙ w.read_srm-answer.ensures.1) told)
    ]
