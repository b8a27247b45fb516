-- `window::cut` meets its contract. No bits spell 0; any others are what the two shifts leave (`cut-shifted`).
use native.Mathlib.Omega.{arith}
use native.Mathlib.Nat.{mod-lt, lt_of_lt_of_le}
use mathlib.Core.Path.{◌≡◌}
use Prim.Native.Nat.{◌-◌, ◌/◌, ◌^◌, ◌≤◌}
use lib.Pow.{pow_pos, pow_mono}
use Rattle.window.proofs.Parts.{cut-shifted}
use Rattle.window.proofs.cut.Goals as goal

pub returns-then-k-eq0 : goal.returns-then-k-eq0
returns-then-k-eq0 c =
    let a = c.args in
    let none : a.k ≡ 0 = omega arith in
    rw none (omega (arith, mod-lt (a.window / 2 ^ (40 - a.into - 0)) (pow_pos 0)))

pub returns : goal.returns
returns c =
    let a = c.args in
    cut-shifted a.window a.into a.k (omega arith) (omega arith)

pub overflow_cast-result-3 : goal.overflow_cast-result-3
overflow_cast-result-3 c =
    let a = c.args in
    let h : a.k ≤ 32 = omega arith in
    rw (cut-shifted a.window a.into a.k (omega arith) (omega arith))
    (record { fits = lt_of_lt_of_le (mod-lt _ (pow_pos a.k)) (pow_mono h) })
