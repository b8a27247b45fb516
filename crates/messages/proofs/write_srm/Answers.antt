-- `messages::write_srm` meets its contract. The table of SRM passes.
-- Assumes nothing.
use mathlib.Core.Path.{sym}
use Rattle.builtin.specs.Tables.{srm}
use Rattle.builtin.proofs.Tables.{srm-obeys, srm-root}
use mathlib.Core.List.{append-nil}
use Rattle.values.specs.Values.{values_in, values_from}
use Rattle.messages.proofs.write_srm.Goals as goal

pub write_known-requires : goal.write_known-requires
unfolding srm
write_known-requires c = (srm-obeys, sym srm-root)

pub returns : goal.returns
unfolding srm values_in values_from
returns c = rw append-nil at c.write_known.ensures
