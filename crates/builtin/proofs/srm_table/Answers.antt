-- `builtin::srm_table` meets its contract: the constant computes to the list of specs/Tables.antt.
use mathlib.Core.Path.{refl}
use Rattle.builtin.specs.Tables.{srm}
use Rattle.builtin.proofs.srm_table.Goals as goal

pub returns : goal.returns
unfolding srm
returns c = refl
