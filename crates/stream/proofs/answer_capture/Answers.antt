-- `stream::answer_capture` meets its contract: the capture program is one of the programs.
use Rattle.captures.proofs.Steady.{capture-steady}
use Rattle.programs.proofs.Whole.{programs-apart}
use Rattle.stream.proofs.Parts.{answered-too}
use Rattle.stream.proofs.answer_capture.Goals as goal

pub returns : goal.returns
returns c =
    let p = c.answer.ensures in
    record { answered = answered-too programs-apart.capture capture-steady p.answered; upper_bound = p.upper_bound }
