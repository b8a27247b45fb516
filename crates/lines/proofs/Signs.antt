-- The text of a value below 0, and of any other.
use mathlib.Core.Path.{◌≡◌, sym, ap, ◌∙◌}
use mathlib.Core.List.{◌∷◌}
use lib.IntN.{ℤ, nat_abs}
use Rattle.values.proofs.Complement.{Negative, Positive}
use Rattle.lines.specs.Text.{decimal, signed}

pub signed-negative : (v : ℤ) → Negative v → signed v ≡ 45 ∷ decimal (nat_abs v)
unfolding signed
signed-negative v k = ap signed k.is ∙ ap (λ (z : ℤ). 45 ∷ decimal (nat_abs z)) (sym k.is)

pub signed-positive : (v : ℤ) → Positive v → signed v ≡ decimal (nat_abs v)
unfolding signed
signed-positive v k = ap signed k.is ∙ ap (λ (z : ℤ). decimal (nat_abs z)) (sym k.is)
