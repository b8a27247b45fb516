-- `teyolxan::teyolxan_load` meets its contract. By the contract of loading.
-- Assumes nothing.
use mathlib.Core.Path.{ap, ◌∙◌}
use Rattle.told.specs.Told.{told}
use Rattle.teyolxan.proofs.teyolxan_load.Goals as goal

pub returns : goal.returns
returns c =
    let r = c.load-answer.ensures in
    (c.told.ensures ∙ ap told r.0, r.1)
