-- `item::Form::after_ones` meets its contract. In each arm the count of ones is a literal, at which the definitions compute.
use native.Mathlib.Omega.{arith}
use mathlib.Core.Path.{◌≡◌, sym, ap}
use Prim.Native.Nat.{ℕ, suc, ◌*◌}
use Rattle.item.specs.Code.{base}
use Rattle.item.specs.Steps.{leading_worth}
use Rattle.item.proofs.Form.after_ones.Goals as goal

-- what the contract says, from one number of ones to another

at_ones : {a b : ℕ} → b ≡ a → (8 * suc a ≡ 8 * suc b) × (leading_worth a ≡ leading_worth b) × (base a ≡ base b)
at_ones e = (ap (λ n. 8 * suc n) (sym e), ap leading_worth (sym e), ap base (sym e))

pub returns-in-0 : goal.returns-in-0
unfolding leading_worth
returns-in-0 c = at_ones c.in-0.is

pub returns-in-1 : goal.returns-in-1
unfolding leading_worth
returns-in-1 c = at_ones c.in-1.is

pub returns-in-2 : goal.returns-in-2
unfolding leading_worth
returns-in-2 c = at_ones c.in-2.is

pub returns-in_default : goal.returns-in_default
unfolding leading_worth
returns-in_default c = at_ones {a = 3} (omega arith)
