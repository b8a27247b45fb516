-- `window::power` meets its contract. A shift by at most 40 loses nothing of 64 bits.
use native.Mathlib.Omega.{arith}
use native.Mathlib.Nat.{one-mul}
use mathlib.Core.Path.{◌≡◌, ◌∙◌}
use Prim.Native.Nat.{ℕ, ◌*◌, ◌^◌, ◌%◌, ◌≤◌}
use lib.Pow.{pow_pos, shl_exact}
use Rattle.window.proofs.power.Goals as goal

shift_one : (k : ℕ) → k ≤ 40 → (1 * 2 ^ k) % 2 ^ 64 ≡ 2 ^ k
shift_one k h = shl_exact {a = 1} 1 k 64 (omega arith) (omega arith) ∙ one-mul (2 ^ k)

pub returns : goal.returns
returns c = let e = shift_one c.args.k (omega arith) in (e, rw e (pow_pos c.args.k))
