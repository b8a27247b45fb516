-- The turns of a run give the machine's text for the octets that they read. The invariant: whatever text is given for the octets at hand
-- and more behind them, the text so far and it are given for all that was read and more.
use Prim.Native.Nat.{ℕ, zero, suc, ◌+◌, ◌-◌}
use mathlib.Core.Path.{◌≡◌, sym, ap, ◌∙◌, subst}
use mathlib.Core.Bool.{true, false}
use mathlib.Core.List.{List, [], ◌∷◌, ◌++◌, append_assoc, append-nil}
use native.Mathlib.Nat.{sub-zero, zero-sub, suc-sub-suc}
use native.Mathlib.Omega.{arith}
use lib.ListN.{length, take, drop}
use lib.Seq.{take-nil, take-append-le, drop-append-le, drop-drop, length-take-le}
use Rattle.lines.specs.Text.{Appended}
use Rattle.machine.specs.declared.Front.TheVariants.{Whole, Part}
use Rattle.machine.specs.Machine.{Machine, Steady, Gives, unit, stop, end}
use Rattle.buffers.specs.declared.State.{State}
use Rattle.buffers.specs.declared.Led.{Led}
use Rattle.buffers.specs.declared.Led.TheVariants.{Next, End, Stop, Lost}
use Rattle.buffers.specs.Held.{at_hand, held_behind}
use Rattle.buffers.specs.InputOutput.{after_lines, read_to, after_read}
use Rattle.turns.specs.Turns.{Turned, wrote, took, read, stopped, octets_of, text_of}
use Rattle.stream.specs.LastLines.{lines_of, last_text}
use Rattle.stream.specs.Program.{Ran, start, turn, Ended, Stopped}

-- ---- the octets at hand after a unit

drop-take : (m n : ℕ) (l : List ℕ) → drop m (take n l) ≡ take (n - m) (drop m l)
drop-take zero n l = rw (sub-zero n)
drop-take (suc m) zero l = rw (zero-sub (suc m))
drop-take (suc m) (suc n) [] = sym (take-nil (suc n - suc m))
drop-take (suc m) (suc n) (x ∷ xs) = rw (suc-sub-suc n m) (drop-take m n xs)

hand_after : (s : State) (input : List ℕ) (size lines : ℕ) → drop size (at_hand s input) ≡ at_hand (held_behind s size lines) input
hand_after s input size lines =
    let e : s.end - s.from - size ≡ s.end - (s.from + size) = omega arith in
    drop-take size (s.end - s.from) (drop s.from input) ∙ rw (drop-drop size s.from input, e)

module _ {A : Type 0} (m : Machine A) (steady : Steady m) (first : A) where
  -- ---- the invariant

  abbrev Told : List ℕ → List ℕ → List ℕ → List ℕ → Led → A → Type 0
  Told octets text input output (Next s) a =
      (more rest : List ℕ) (b : A) → Gives m a (at_hand s input ++ more) rest b → Gives m first (octets ++ more) (text ++ (take s.lines output ++ rest)) b
  Told octets text input output (End s) a = Gives m first octets (text ++ (take s.lines output ++ last_text m a input (End s))) a
  Told octets text input output (Stop s) a =
      (more : List ℕ) → Gives m first (octets ++ more) (text ++ (take s.lines output ++ last_text m a input (Stop s))) a
  Told octets text input output Lost a = Unit {0}

  module _ (octets text input output : List ℕ) (s : State) (a : A) (so : Told octets text input output (Next s) a) where
    told-unit : {size lines : ℕ} {output' : List ℕ} → m.front a (at_hand s input) ≡ Whole size
        → Appended output s.lines (m.line a (take size (at_hand s input))) output' lines
        → Told octets text input output' (Next (held_behind s (length (take size (at_hand s input))) lines)) (m.next a (take size (at_hand s input)))
    told-unit {size} {lines} {output'} whole line more rest b g =
        let hand = at_hand s input in
        let text' = m.line a (take size hand) in
        let within = (steady.some a hand size whole).1 in
        let many : length (take size hand) ≡ size = length-take-le size hand within in
        let left : drop size (hand ++ more) ≡ at_hand (held_behind s size lines) input ++ more =
        drop-append-le size hand more within ∙ ap (λ (x : List ℕ). x ++ more) (hand_after s input size lines) in
        let same : take size (hand ++ more) ≡ take size hand = take-append-le size hand more within in
        let next : Gives m (m.next a (take size (hand ++ more))) (drop size (hand ++ more)) rest b = rw (same, left) (rw many at g) in
        let all : Gives m a (hand ++ more) (m.line a (take size (hand ++ more)) ++ rest) b = unit size (steady.stays a hand more size whole) next in
        rw (line.told, append_assoc (take s.lines output) text' rest) (so more (text' ++ rest) b (rw same at all))

    told_more : (came input' output' : List ℕ) → take (length (at_hand s input) + length came) input' ≡ at_hand s input ++ came
        → Told (octets ++ came) (text ++ take s.lines output) input' output' (Next (read_to (after_lines s) (length (at_hand s input)) (length came))) a
    told_more came input' output' front more rest b g =
        let hand = at_hand s input in
        rw (append_assoc octets came more, append_assoc text (take s.lines output) rest)
        (so (came ++ more) rest b (rw (sub-zero (length hand + length came), front, append_assoc hand came more) at g))

    -- the input ended: after the last unit, or inside one
    told_end : (input' output' : List ℕ) → m.front a (at_hand s input) ≡ Part
        → take (length (at_hand s input) + 0) input' ≡ at_hand s input ++ []
        → Told (octets ++ []) (text ++ take s.lines output) input' output' (End (read_to (after_lines s) (length (at_hand s input)) 0)) a
    told_end input' output' part front =
        let hand = at_hand s input in
        let none_came : at_hand (read_to (after_lines s) (length hand) 0) input' ≡ hand = rw (sub-zero (length hand + 0)) (front ∙ append-nil hand) in
        subst (λ (x : List ℕ). Gives m first (octets ++ []) ((text ++ take s.lines output) ++ m.ended a x) a) (sym none_came)
        (rw (append_assoc text (take s.lines output) (m.ended a hand)) (so [] (m.ended a hand) a (rw (append-nil hand) (end part))))

    told-read : (came input' output' : List ℕ) → m.front a (at_hand s input) ≡ Part
        → take (length (at_hand s input) + length came) input' ≡ at_hand s input ++ came
        → Told (octets ++ came) (text ++ take s.lines output) input' output' (after_read (after_lines s) (length (at_hand s input)) (length came)) a
    told-read [] input' output' part front = told_end input' output' part front
    told-read (x ∷ came) input' output' part front = told_more (x ∷ came) input' output' front

    told-turn : {input' output' : List ℕ} (r : Led) (a' : A) (t : Turned m s a input output input' output' r a')
        → Told (octets ++ octets_of t) (text ++ text_of t) input' output' r a'
    told-turn r a' (wrote many same (true, is) stays) =
        rw (is, same, stays, append-nil octets) (λ more rest b g. rw (append_assoc text (take s.lines output) rest) (so more rest b g))
    told-turn r a' (wrote many same (false, is) stays) = rw is tt
    told-turn r a' (took room size whole same t) = rw (t.state, t.next, same, append-nil octets, append-nil text) (told-unit whole t.line)
    told-turn {input'} {output'} r a' (read room part (true, came, got) stays) = rw (got.0, stays) (told-read came input' output' part got.1)
    told-turn r a' (read room part (false, came, got) stays) = rw got.0 tt
    told-turn r a' (stopped room none same still is stays) =
        rw (is, same, still, stays, append-nil octets, append-nil text) (λ more. so more _ a (stop (steady.wrong a (at_hand s input) more none)))

  told : {octets text input output : List ℕ} {turns : ℕ} {r : Led} {a : A} → Ran m first octets text turns input output r a → Told octets text input output r a
  told (start input output) = λ more rest b g. g
  told (turn {octets} {text} {input} {output} {s = s} {r = r} {a = a} {a' = a'} before t) = told-turn octets text input output s a (told before) r a' t

  ended : (octets text input output : List ℕ) (last : Led) (a : A) → Told octets text input output last a → Ended last
      → Gives m first octets (text ++ (take (lines_of last) output ++ last_text m a input last)) a
  ended octets text input output (Next s) a so e = absurd e
  ended octets text input output (End s) a so e = so
  ended octets text input output (Stop s) a so e = rw (append-nil octets) at (so [])
  ended octets text input output Lost a so e = absurd e

  pub gives-text : {octets text input output output' : List ℕ} {turns end : ℕ} {last : Led} {a : A} → Ran m first octets text turns input output last a
      → Appended output (lines_of last) (last_text m a input last) output' end → Ended last → Gives m first octets (text ++ take end output') a
  gives-text {octets} {text} {input} {output} {last = last} {a = a} ran t e = rw t.told (ended octets text input output last a (told ran) e)

  halted : (octets text input output : List ℕ) (last : Led) (a : A) → Told octets text input output last a → Stopped last → (rest : List ℕ)
      → Gives m first (octets ++ rest) (text ++ (take (lines_of last) output ++ last_text m a input last)) a
  halted octets text input output (Next s) a so e rest = absurd e
  halted octets text input output (End s) a so e rest = absurd e
  halted octets text input output (Stop s) a so e rest = so rest
  halted octets text input output Lost a so e rest = absurd e

  pub stops-text : {octets text input output output' : List ℕ} {turns end : ℕ} {last : Led} {a : A} → Ran m first octets text turns input output last a
      → Appended output (lines_of last) (last_text m a input last) output' end → Stopped last → (rest : List ℕ)
      → Gives m first (octets ++ rest) (text ++ take end output') a
  stops-text {octets} {text} {input} {output} {last = last} {a = a} ran t e rest = rw t.told (halted octets text input output last a (told ran) e rest)
