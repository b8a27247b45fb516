-- Laws of a message that was heard: a step with as much room as the message has is the step with room for any frame, and what it then wrote
-- are the forwarded octets.
use Prim.Native.Nat.{ℕ, ◌+◌, ◌-◌, ◌≤◌}
use mathlib.Core.Path.{◌≡◌, refl, ap, ◌∙◌}
use mathlib.Core.List.{List, ◌++◌, append-nil}
use native.Mathlib.Omega.{arith}
use borrow.Author.Tests.{le-leb}
use lib.ListN.{length, take, drop, length-drop}
use lib.Seq.{length-take-le, take-append-le, take-take, take_at, drop_at}
use Rattle.answer.specs.Numbers.{Answer}
use Rattle.lines.specs.Text.{Appended}
use Rattle.seen.specs.declared.Seen.{Seen}
use Rattle.forward.specs.Forward.{lowered, forward_answer, output_by}
use Rattle.drive.specs.Replay.{any_frame, step_line}
use Rattle.drive.proofs.Lengths.{lowered-size}
use Rattle.std.proofs.Common.{Ok, Err}

pub same_room : (m : List ℕ) (t : ℕ) (rs : List Seen) → length m ≤ any_frame → forward_answer m t rs (length m) ≡ forward_answer m t rs any_frame
unfolding forward_answer
same_room m t rs h = rw (le-leb (length m) (length m) (omega arith), le-leb (length m) any_frame h)

pub step-octets : (x : Answer) (m : List ℕ) → step_line x (output_by x m (length m)) ≡ step_line x (lowered m)
step-octets (Ok c) m =
    let none : length m - length (lowered m) ≡ 0 = omega (arith, lowered-size m) in
    rw (none, append-nil (lowered m))
step-octets (Err r) m = refl

-- ---- octets that were put into the middle of a slice

-- the room that is lent for them
pub lent-size : (out : List ℕ) (at n : ℕ) → at + n + n ≤ length out → length (take (at + n + n - (at + n)) (drop (at + n) out)) ≡ n
lent-size out at n h =
    let k : at + n + n - (at + n) ≡ n = omega arith in
    rw k (length-take-le n (drop (at + n) out) (omega (arith, length-drop (at + n) out)))

module _ (out e rest : List ℕ) (at n : ℕ) (many : length e ≡ n) (room : at + n ≤ length out) where
  front : length (take (at + n) out) ≡ at + n
  front = length-take-le (at + n) out room

  -- they stand there
  pub put_there : take n (drop (at + n) (take (at + n) out ++ (e ++ rest))) ≡ e
  put_there = ap (take n) (drop_at (take (at + n) out) (e ++ rest) (at + n) front) ∙ take_at e rest n many

  -- and what is told before them is as it was
  pub told-from : {text after : List ℕ} {end : ℕ} → Appended (take (at + n) out ++ (e ++ rest)) at text after end → Appended out at text after end
  told-from {text} p =
      let same : take at (take (at + n) out ++ (e ++ rest)) ≡ take at out =
      take-append-le at (take (at + n) out) (e ++ rest) (omega (arith, front)) ∙ take-take at (at + n) out (omega arith) in
      record { counted = p.counted; told = p.told ∙ ap (λ (x : List ℕ). x ++ text) same }
