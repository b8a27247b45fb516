-- `teyolxan::teyolxan_check` meets its contract. By the check's contract.
-- Assumes nothing.
use mathlib.Core.Path.{ap, ◌∙◌}
use Rattle.told.specs.Told.{told}
use borrow.Author.Rules.{rules}
use Rattle.teyolxan.proofs.teyolxan_check.Goals as goal

pub check-requires : goal.check-requires
check-requires c = search rules

pub told-requires : goal.told-requires
told-requires c = search rules

pub returns : goal.returns
returns c = c.told.ensures ∙ ap told c.check.ensures
