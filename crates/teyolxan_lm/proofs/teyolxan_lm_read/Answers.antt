-- `teyolxan_lm::teyolxan_lm_read` meets its contract. By the contract of reading an LM into octets.
-- Assumes nothing.
use mathlib.Core.Path.{ap, ◌∙◌}
use Rattle.told.specs.Told.{told}
use Rattle.teyolxan_lm.proofs.teyolxan_lm_read.Goals as goal

pub returns : goal.returns
returns c =
    let r = c.read_lm_packed-answer.ensures in
    (c.told.ensures ∙ ap told r.0, r.1)
