-- `messages::read_sam` meets its contract. The table of SAM passes.
-- Assumes nothing.
use mathlib.Core.Path.{sym}
use Rattle.builtin.specs.Tables.{sam}
use Rattle.builtin.proofs.Tables.{sam-obeys, sam-root}
use Rattle.messages.proofs.read_sam.Goals as goal

pub read_known-requires : goal.read_known-requires
unfolding sam
read_known-requires c = (sam-obeys, sym sam-root)

pub returns : goal.returns
unfolding sam
returns c = c.read_known.ensures
