-- What a machine within another answers: turns of the one are turns of the other, and so are the last lines.
use Prim.Native.Nat.{ℕ, ◌+◌}
use mathlib.Core.Path.{◌≡◌, refl, sym, ap, ◌∙◌}
use mathlib.Core.List.{List, ◌++◌}
use lib.ListN.{take}
use Rattle.machine.specs.Machine.{Machine, Steady, Within}
use Rattle.buffers.specs.declared.State.{State}
use Rattle.buffers.specs.declared.Led.{Led}
use Rattle.buffers.specs.declared.Led.TheVariants.{Next, End, Stop, Lost}
use Rattle.buffers.specs.Held.{at_hand}
use Rattle.turns.specs.Turns.{Took, Turned, wrote, took, read, stopped, octets_of, text_of}
use Rattle.stream.specs.LastLines.{last_text}
use Rattle.stream.specs.Program.{Ran, start, turn, Answered}
use Rattle.stream.proofs.Runs.{gives-text, stops-text}

module _ {A B : Type 0} {m : Machine A} {n : Machine B} {at : A → B} (within : Within m n at) where
  -- turns of the part, which led to a state that stands for one of its own
  abbrev Part : A → List ℕ → List ℕ → ℕ → List ℕ → List ℕ → Led → B → Type 0
  Part first octets text turns input output r b = (a : A) × (b ≡ at a) × Ran m first octets text turns input output r a

  unit-too : {unit output output' : List ℕ} {s : State} {r : Led} (a : A) {b b' : B} → b ≡ at a → Took n b unit s output output' r b'
      → (b' ≡ at (m.next a unit)) × Took m a unit s output output' r (m.next a unit)
  unit-too {unit} a e t =
      let there = rw e at t.line in (
        t.next ∙ ap (λ (x : B). n.next x unit) e ∙ within.next a unit,
        record { lines = t.lines; state = t.state; line = rw (within.line a unit) at there; next = refl },
      )

  turn-too : {first a : A} {octets text input output input' output' : List ℕ} {turns : ℕ} {s : State} {r : Led} {b b' : B} → b ≡ at a
      → Ran m first octets text turns input output (Next s) a → (t : Turned n s b input output input' output' r b')
      → Part first (octets ++ octets_of t) (text ++ text_of t) (turns + 1) input' output' r b'
  turn-too {a = a} e ran (wrote many same handed stays) = (a, stays ∙ e, turn ran (wrote many same handed refl))
  turn-too {a = a} {input = input} {s = s} e ran (took room size whole same t) =
      let front = sym (within.front a (at_hand s input)) ∙ (rw e at whole) in
      let one = unit-too a e t in
      (m.next a (take size (at_hand s input)), one.0, turn ran (took room size front same one.1))
  turn-too {a = a} {input = input} {s = s} e ran (read room part got stays) =
      let front = sym (within.front a (at_hand s input)) ∙ (rw e at part) in
      (a, stays ∙ e, turn ran (read room front got refl))
  turn-too {a = a} {input = input} {s = s} e ran (stopped room none same still is stays) =
      let front = sym (within.front a (at_hand s input)) ∙ (rw e at none) in
      (a, stays ∙ e, turn ran (stopped room front same still is refl))

  turns-too : {first : A} {octets text input output : List ℕ} {turns : ℕ} {r : Led} {b : B} → Ran n (at first) octets text turns input output r b
      → Part first octets text turns input output r b
  turns-too {first} (start input output) = (first, refl, start input output)
  turns-too (turn before t) =
      let so = turns-too before in
      turn-too so.1 so.2 t

  last_too : (a : A) (input : List ℕ) (last : Led) → last_text n (at a) input last ≡ last_text m a input last
  last_too a input (Next s) = within.ended a _
  last_too a input (End s) = within.ended a (at_hand s input)
  last_too a input (Stop s) = within.stopped a
  last_too a input Lost = refl

  pub answered-too : {first : A} {output' : List ℕ} {end : ℕ} → Steady m → Answered n (at first) output' end → Answered m first output' end
  answered-too {first} steady answered =
      let so = turns-too answered.finished.ran in
      let there = rw so.1 at answered.lines in
      let lines = rw (last_too so.0 answered.input answered.last) at there in
      record {
        input = answered.input;
        output = answered.output;
        last = answered.last;
        left = so.0;
        finished = record { octets = answered.finished.octets; text = answered.finished.text; turns = answered.finished.turns; ran = so.2; all = answered.finished.all };
        lines = lines;
        gives = gives-text m steady first so.2 lines;
        stops = stops-text m steady first so.2 lines;
      }
