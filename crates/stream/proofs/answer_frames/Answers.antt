-- `stream::answer_frames` meets its contract: the bench program is one of the programs.
use Rattle.frames.proofs.Fronts.{bench-steady}
use Rattle.programs.proofs.Whole.{programs-apart}
use Rattle.stream.proofs.Parts.{answered-too}
use Rattle.stream.proofs.answer_frames.Goals as goal

pub returns : goal.returns
returns c =
    let p = rw c.none.ensures at c.answer.ensures in
    record { answered = answered-too programs-apart.bench bench-steady p.answered; upper_bound = p.upper_bound }
