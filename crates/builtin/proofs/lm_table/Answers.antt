-- `builtin::lm_table` meets its contract: the constant computes to the list of specs/Tables.antt.
use mathlib.Core.Path.{refl}
use Rattle.builtin.specs.Tables.{lm}
use Rattle.builtin.proofs.lm_table.Goals as goal

pub returns : goal.returns
unfolding lm
returns c = refl
