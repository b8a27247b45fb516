-- How long the lines of a recording are: a frame's line has at most two octets for each of the frame, and eight more.
use Prim.Native.Nat.{ℕ, ◌+◌, ◌*◌, ◌≤◌, ◌<◌}
use mathlib.Core.Bool.{Bool, true, false, not}
use mathlib.Core.Path.{◌≡◌}
use mathlib.Core.List.{List, [], ◌∷◌, ◌++◌}
use native.Mathlib.Omega.{arith}
use lib.Dec.{leb, ltb, eqb}
use lib.ListN.{length, length-append}
use Rattle.answer.specs.Numbers.{refusal_at, answer_if, Answer}
use Rattle.answer.specs.declared.Counts.{Counts}
use Rattle.answer.specs.declared.Refusal.{Refusal}
use Rattle.bits.proofs.Bits.{length-pack}
use Rattle.lines.specs.Text.{decimal, number_line, placed_line, refused_line}
use Rattle.lines.proofs.Decimal.{few-digits}
use Rattle.house.specs.House.{kind_line}
use Rattle.hexadecimal.specs.Hex.{hex}
use Rattle.hexadecimal.proofs.Digits.{length-hex}
use Rattle.seen.specs.declared.Seen.{Seen}
use Rattle.seen.specs.Records.{holds, first_free}
use Rattle.forward.specs.Forward.{subtype, version, message_id, hop_count, lowered, forward_answer}
use Rattle.drive.specs.Replay.{step_line}
use Rattle.std.proofs.Common.{Ok, Err}

-- a number of at most five digits
abbrev Few : ℕ → Type 0
Few n = n < 100000

five : (n : ℕ) → Few n → length (decimal n) ≤ 5
five n h = few-digits 4 n h

number-line : (words : List ℕ) (n : ℕ) → Few n → length (number_line words n) ≤ length words + 6
unfolding number_line
number-line words n h =
    omega (arith, length-append words (decimal n ++ (10 ∷ [])), length-append (decimal n) (10 ∷ []), five n h)

pub kind-line : (k : ℕ) → k < 65536 → length (kind_line k) ≤ 14
kind-line k h = number-line _ k (omega arith)

-- ---- of a step

pub data FewIn : Answer → Type 0 where
  accepts : {c : Counts} → FewIn (Ok c)
  refuses : {r : Refusal} → Few r.number → Few r.place → FewIn (Err r)

few_if : (b : Bool) (number place : ℕ) {x : Answer} → Few number → Few place → FewIn x → FewIn (answer_if b (refusal_at number place) x)
few_if true number place p q s = s
few_if false number place p q s = refuses p q

pub few : (m : List ℕ) (t : ℕ) (rs : List Seen) (cap : ℕ) → FewIn (forward_answer m t rs cap)
unfolding forward_answer
few m t rs cap =
    few_if (leb (length m) 65535) 13 0 (omega arith) (omega arith)
    (few_if (leb 4 (length m)) 2 0 (omega arith) (omega arith)
    (few_if (eqb (version m) 3) 10 5 (omega arith) (omega arith)
    (few_if (eqb (subtype m) 2) 11 0 (omega arith) (omega arith)
    (few_if (leb 1 (hop_count m)) 40 30 (omega arith) (omega arith)
    (few_if (not (holds (message_id m) t rs)) 41 8 (omega arith) (omega arith)
    (few_if (ltb (first_free t rs) (length rs)) 42 0 (omega arith) (omega arith)
    (few_if (leb (length m) cap) 8 0 (omega arith) (omega arith) accepts)))))))

pub lowered-size : (m : List ℕ) → length (lowered m) ≡ length m
unfolding lowered
lowered-size m = length-pack (length m) _

refused-line : (r : Refusal) → Few r.number → Few r.place → length (refused_line r) ≤ 18
unfolding refused_line placed_line
refused-line r p q =
    omega (arith, length-append (110 ∷ 111 ∷ 32 ∷ []) (decimal r.number ++ number_line (32 ∷ 97 ∷ 116 ∷ 32 ∷ []) r.place), length-append (decimal r.number) (number_line (32 ∷ 97 ∷ 116 ∷ 32 ∷ []) r.place), five r.number p, number-line (32 ∷ 97 ∷ 116 ∷ 32 ∷ []) r.place q)

pub step_line_lem : {x : Answer} (octets : List ℕ) → FewIn x → length (step_line x octets) ≤ 2 * length octets + 18
step_line_lem octets accepts = omega (arith, length-append (hex octets) (10 ∷ []), length-hex octets)
step_line_lem octets (refuses {r} p q) = omega (arith, refused-line r p q)
