-- `hexadecimal::put_hex` meets its contract: one octet more has two digits more, before the octets that are left.
use Prim.Native.Nat.{◌+◌, ◌*◌}
use mathlib.Core.Path.{◌≡◌, refl}
use native.Mathlib.Omega.{arith}
use native.Mathlib.Nat.{add-zero}
use lib.ListN.{length, get_or, take, drop, length-set, length-drop}
use lib.Seq.{length-take-le}
use Rattle.lines.proofs.Texts.{put-nothing}
use Rattle.hexadecimal.specs.Hex.{hex}
use Rattle.hexadecimal.proofs.Digits.{put-digits, next_octet, left_behind}
use Rattle.hexadecimal.proofs.put_hex.Goals as goal

pub loop-i-init : goal.loop-i-init
unfolding hex
loop-i-init c =
    let a = c.args in
    (refl, omega arith, rw (add-zero a.at) (put-nothing a.out.now a.at), refl)

pub loop-i-preserved : goal.loop-i-preserved
loop-i-preserved c =
    let a = c.args in
    let start = a.out.now in
    let octets = take a.count (drop (a.at + a.count) start) in
    let many : length octets ≡ a.count = length-take-le a.count (drop (a.at + a.count) start) (omega (arith, length-drop (a.at + a.count) start, c.requires)) in
    let less = c.loop-i-test.true in
    let is = next_octet start c.loop-i.out (a.at + a.count) a.count c.loop-i.i less c.loop-i.invariant.3 in
    let put = put-digits octets c.loop-i.i (get_or c.loop-i.out (a.at + a.count + c.loop-i.i) 0) (omega arith) (omega (arith, c.loop-i.invariant.0)) is c.loop-i.invariant.2 in
    let n : a.at + a.count + (c.loop-i.i + 1) ≡ a.at + a.count + c.loop-i.i + 1 = omega arith in (
      simp (length-set) c.loop-i.invariant.0,
      omega arith,
      rw (c.digit.ensures, c.digit-in-loop-i.ensures) put,
      rw n (left_behind start c.loop-i.out (a.at + a.count + c.loop-i.i) (a.at + 2 * c.loop-i.i) (a.at + 2 * c.loop-i.i + 1) c.digit.result c.digit-in-loop-i.result (omega arith) (omega arith) c.loop-i.invariant.3),
    )
