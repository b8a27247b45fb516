-- `messages::write_sam` meets its contract. The table of SAM passes.
-- Assumes nothing.
use mathlib.Core.Path.{sym}
use Rattle.builtin.specs.Tables.{sam}
use Rattle.builtin.proofs.Tables.{sam-obeys, sam-root}
use mathlib.Core.List.{append-nil}
use Rattle.values.specs.Values.{values_in, values_from}
use Rattle.messages.proofs.write_sam.Goals as goal

pub write_known-requires : goal.write_known-requires
unfolding sam
write_known-requires c = (sam-obeys, sym sam-root)

pub returns : goal.returns
unfolding sam values_in values_from
returns c = rw append-nil at c.write_known.ensures
