-- `teyolxan::teyolxan_write` meets its contract. By the contract of writing from octets.
-- Assumes nothing.
use mathlib.Core.Path.{ap, ◌∙◌}
use Rattle.told.specs.Told.{told}
use borrow.Author.Rules.{rules}
use Rattle.teyolxan.proofs.teyolxan_write.Goals as goal

pub write_packed-answer-requires : goal.write_packed-answer-requires
write_packed-answer-requires c = search rules

pub told-requires : goal.told-requires
told-requires c = search rules

pub shape_of-output : goal.shape_of-output
shape_of-output c = search rules

pub returns : goal.returns
returns c =
    let r = c.write_packed-answer.ensures in
    (c.told.ensures ∙ ap told r.0, r.1)
