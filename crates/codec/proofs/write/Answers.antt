-- `codec::write` meets its contract. The list is in the first slice alone.
-- Assumes nothing.
use mathlib.Core.List.{append-nil}
use Rattle.values.specs.Values.{values_in, values_from}
use Rattle.codec.proofs.write.Goals as goal

pub returns : goal.returns
unfolding values_in values_from
returns c =
    let r = c.write_lent.ensures in
    rw append-nil at r
