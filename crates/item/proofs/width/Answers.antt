-- `item::width` meets its contract. A number that is at least half of 2 ^ m and below it has the width m, and the leading
-- zeros leave such an m.
use native.Mathlib.Decide.{dec_lt}
use native.Mathlib.Omega.{arith}
use mathlib.Core.Path.{◌≡◌}
use Prim.Native.Nat.{ℕ, suc, ◌+◌, ◌-◌, ◌*◌, ◌<◌, ◌≤◌, ◌^◌}
use lib.Count.{count_leading_zeros, leading_le, leading_length}
use lib.Pow.{pow_mono}
use native.Mathlib.Nat.{pow-succ'}
use Rattle.bits.specs.Bits.{width}
use Rattle.bits.proofs.Bits.{width_above, width-least}
use Rattle.item.proofs.width.Goals as goal

width_is : (n m : ℕ) → n < 2 ^ m → 2 ^ m ≤ 2 * n + 1 → width n ≡ m
width_is n m h l =
    let least = width-least n m h in
    elim (dec_lt (width n) m) [
      | yes g ↦ absurd (omega (arith, pow_mono {i = suc (width n)} {j = m} g, pow-succ' 2 (width n), width_above n))
      | no g ↦ omega arith
    ]

by_length : (n r m : ℕ) → r + m ≡ 32 → n < 2 ^ m → 2 ^ m ≤ 2 * n + 1 → (32 - r ≡ width n) × (32 - r ≤ 32)
by_length n r m e h l = (omega (arith, width_is n m h l), omega arith)

pub overflow_sub-result : goal.overflow_sub-result
overflow_sub-result c = leading_le 32 c.args.span

pub returns : goal.returns
returns c =
    let l = leading_length 32 c.args.span (omega arith) in
    by_length c.args.span (count_leading_zeros 32 c.args.span) l.0 l.1 l.2 l.3
