-- `builtin::sam_table` meets its contract: the constant computes to the list of specs/Tables.antt.
use mathlib.Core.Path.{refl}
use Rattle.builtin.specs.Tables.{sam}
use Rattle.builtin.proofs.sam_table.Goals as goal

pub returns : goal.returns
unfolding sam
returns c = refl
