-- `teyolxan::teyolxan_read_loaded` meets its contract. By the contract of reading through a state into octets.
-- Assumes nothing.
use mathlib.Core.Path.{ap, ◌∙◌}
use Rattle.told.specs.Told.{told}
use Rattle.teyolxan.proofs.teyolxan_read_loaded.Goals as goal

pub returns : goal.returns
returns c =
    let r = c.read_packed-answer.ensures in
    (c.told.ensures ∙ ap told r.0, r.1)
