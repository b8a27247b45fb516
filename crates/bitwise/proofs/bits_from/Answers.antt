-- `bitwise::bits_from` meets its contract: one bit more.
use native.Mathlib.Omega.{arith}
use mathlib.Core.Bool.{Bool}
use mathlib.Core.List.{List}
use mathlib.Core.Path.{◌≡◌, refl}
use Prim.Native.Nat.{ℕ, ◌+◌, ◌*◌, ◌<◌}
use lib.ListN.{length, take, drop, length-drop}
use lib.Seq.{take-add, drop-drop, length-take-le}
use Rattle.bits.specs.Bits.{number_of, unpack}
use Rattle.bits.proofs.Bits.{number_of-append, number_of-take_lt, length-unpack}
use Rattle.bitwise.proofs.bits_from.Goals as goal

-- one bit more doubles the number that they spell, and adds the bit
number_more : (b : List Bool) (p n : ℕ) → p + n < length b
    → 2 * number_of (take n (drop p b)) + number_of (take 1 (drop (p + n) b)) ≡ number_of (take (n + 1) (drop p b))
number_more b p n inside =
    let one : length (take 1 (drop (p + n) b)) ≡ 1 = length-take-le 1 (drop (p + n) b) (rw length-drop (omega arith)) in
    rw (take-add n 1 (drop p b), drop-drop n p b, number_of-append, one) (omega arith)

pub loop-done-init : goal.loop-done-init
unfolding number_of
loop-done-init c = (omega arith, refl, omega arith)

pub loop-done-preserved : goal.loop-done-preserved
loop-done-preserved c =
    let a = c.args in
    let b = unpack a.message.now in
    let more : 2 * c.loop-done.number + c.bit_at.result ≡ number_of (take (c.loop-done.done + 1) (drop a.from b)) =
    rw (c.loop-done.invariant.1, c.bit_at.ensures.0) (number_more b a.from c.loop-done.done (rw length-unpack (omega arith))) in
    (omega arith, more, rw more (number_of-take_lt (c.loop-done.done + 1) 32 (drop a.from b) (omega arith)))
