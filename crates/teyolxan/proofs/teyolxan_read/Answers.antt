-- `teyolxan::teyolxan_read` meets its contract. By the contract of reading into octets.
-- Assumes nothing.
use mathlib.Core.Path.{ap, ◌∙◌}
use Rattle.told.specs.Told.{told}
use borrow.Author.Rules.{rules}
use Rattle.teyolxan.proofs.teyolxan_read.Goals as goal

pub read_packed-answer-requires : goal.read_packed-answer-requires
read_packed-answer-requires c = search rules

pub told-requires : goal.told-requires
told-requires c = search rules

pub shape_of-values : goal.shape_of-values
shape_of-values c = search rules

pub returns : goal.returns
returns c =
    let r = c.read_packed-answer.ensures in
    (c.told.ensures ∙ ap told r.0, r.1)
