-- `messages::read_srm` meets its contract. The table of SRM passes.
-- Assumes nothing.
use mathlib.Core.Path.{sym}
use Rattle.builtin.specs.Tables.{srm}
use Rattle.builtin.proofs.Tables.{srm-obeys, srm-root}
use Rattle.messages.proofs.read_srm.Goals as goal

pub read_known-requires : goal.read_known-requires
unfolding srm
read_known-requires c = (srm-obeys, sym srm-root)

pub returns : goal.returns
unfolding srm
returns c = c.read_known.ensures
