-- `same_lm::same_values` meets its contract: `==` on numbers decides, so `==` on slices of them does.
-- Assumes nothing.
use Rattle.std.proofs.lemmas.Bool.Decides.{Decides-int_eq}
use Rattle.std.proofs.lemmas.Slice.Eq.{slice_eq-Decides}
use Rattle.same_lm.proofs.same_values.Goals as goal

pub returns : goal.returns
returns c = slice_eq-Decides Decides-int_eq _ _ _ c.eq.ensures
