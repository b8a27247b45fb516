-- `guard::depth_at` meets its contract. The octet at half the offset, behind the rows.
-- Assumes nothing.
use borrow.Author.Rules.{rules}
use Rattle.encoding.specs.Guarded.{held_depth}
use Rattle.guard.proofs.depth_at.Goals as goal

pub returns : goal.returns
unfolding held_depth
returns c = search rules
