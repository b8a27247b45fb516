-- Laws of the octets at hand: how many there are, and what reading behind them leaves.
use Prim.Native.Nat.{ℕ, zero, suc, zero-le, ◌+◌, ◌-◌, ◌≤◌}
use mathlib.Core.Path.{◌≡◌, refl, ap, subst, ◌∙◌}
use mathlib.Core.Bool.{true}
use mathlib.Core.List.{List, ◌++◌}
use native.Mathlib.Nat.{zero-add}
use native.Mathlib.Omega.{arith}
use lib.ListN.{length, take, drop, length-drop}
use lib.Seq.{paste, length-take-le, take-add, take-paste}
use Rattle.buffers.specs.declared.State.{State}
use Rattle.buffers.specs.declared.Led.{Led}
use Rattle.buffers.specs.Held.{Held, HeldAfter, at_hand}
use Rattle.buffers.specs.InputOutput.{after_lines, read_to, after_read, Came}

pub length-at_hand : (s : State) (input : List ℕ) → Held s → length input ≡ 65536 → length (at_hand s input) ≡ s.end - s.from
length-at_hand s input held whole =
    length-take-le (s.end - s.from) (drop s.from input) (omega (arith, held.ordered, held.within, length-drop s.from input))

-- octets copied to the front from further behind
pub at_front : (input : List ℕ) (from have : ℕ) → have ≤ length input - from → take have (paste input 0 (drop from input) have) ≡ take have (drop from input)
at_front input from have h =
    subst (λ (n : ℕ). take n (paste input 0 (drop from input) have) ≡ take have (drop from input)) (zero-add have)
    (take-paste input 0 (drop from input) have zero-le (rw (length-drop from input) h))

held-read : (s : State) (have count : ℕ) → Held (read_to s have count) → HeldAfter (after_read s have count)
held-read s have (suc count) held = held
held-read s have zero held = held

-- what a read of so many octets behind those at hand leads to, once the lines are written
abbrev read_on : State → ℕ → Led
read_on s count = after_read (after_lines s) (s.end - s.from) count

pub read_behind : (s : State) (input moved read : List ℕ) (count : ℕ) → Held s → length input ≡ 65536 → length read ≡ 65536
    → take (s.end - s.from) moved ≡ at_hand s input
    → take (s.end - s.from) read ≡ take (s.end - s.from) moved
    → s.end - s.from + count ≤ 65536
    → HeldAfter (read_on s count) × Came true s input (take count (drop (s.end - s.from) read)) read (read_on s count)
read_behind s input moved read count held whole kept first stays fits =
    let have = s.end - s.from in
    let many = length-at_hand s input held whole in
    let came = length-take-le count (drop have read) (omega (arith, length-drop have read)) in (
      held-read (after_lines s) have count (record { ordered = omega arith; within = omega arith; room = omega arith }),
      rw (many, came) (refl, take-add have count read ∙ ap (λ (x : List ℕ). x ++ take count (drop have read)) (stays ∙ first)),
    )
