-- What a turn of a program leads to, for any machine.
use Rattle.std.specs.Prelude.{ℕ, ◌≤◌, ◌<◌, ◌≡◌, cond, List, [], length, take}
use Rattle.lines.specs.Text.{Appended}
use Rattle.machine.specs.declared.Front.TheVariants.{Whole, Part, Wrong}
use Rattle.machine.specs.Machine.{Machine}
use Rattle.buffers.specs.declared.State.{State}
use Rattle.buffers.specs.declared.Led.{Led}
use Rattle.buffers.specs.declared.Led.TheVariants.{Next, Stop}
use Rattle.buffers.specs.Held.{at_hand, held_behind}
use Rattle.buffers.specs.InputOutput.{Wrote, Read}

-- A whole unit is taken from the octets at hand: its own line stands behind those that are held, and the machine goes on behind it.
pub record Took {A : Type 0} (m : Machine A) (a : A) (unit : List ℕ) (s : State) (output output' : List ℕ) (r : Led) (a' : A) : Type 0 where
  pub lines : ℕ
  pub state : r ≡ Next (held_behind s (length unit) lines)
  pub line : Appended output s.lines (m.line a unit) output' lines
  pub next : a' ≡ m.next a unit

-- A turn: lines are written where there are many; else it goes by what the octets at hand begin with.
pub data Turned {A : Type 0} (m : Machine A) (s : State) (a : A) (input output input' output' : List ℕ) (r : Led) (a' : A) : Type 0 where
  wrote : 32768 < s.lines → input' ≡ input → Wrote s r → a' ≡ a → Turned m s a input output input' output' r a'
  took : s.lines ≤ 32768 → (size : ℕ) → m.front a (at_hand s input) ≡ Whole size → input' ≡ input
      → Took m a (take size (at_hand s input)) s output output' r a' → Turned m s a input output input' output' r a'
  read : s.lines ≤ 32768 → m.front a (at_hand s input) ≡ Part → Read s input input' r → a' ≡ a
      → Turned m s a input output input' output' r a'
  stopped : s.lines ≤ 32768 → m.front a (at_hand s input) ≡ Wrong → input' ≡ input → output' ≡ output → r ≡ Stop s → a' ≡ a
      → Turned m s a input output input' output' r a'

-- the octets that a turn read
abbrev pub octets_of : {A : Type 0} {m : Machine A} {s : State} {a a' : A} {input output input' output' : List ℕ} {r : Led}
    → Turned m s a input output input' output' r a' → List ℕ
octets_of (wrote _ _ _ _) = []
octets_of (took _ _ _ _ _) = []
octets_of (read _ _ got _) = got.1
octets_of (stopped _ _ _ _ _ _) = []

-- the text that a turn wrote: the lines that were held, where the output took them
abbrev pub text_of : {A : Type 0} {m : Machine A} {s : State} {a a' : A} {input output input' output' : List ℕ} {r : Led}
    → Turned m s a input output input' output' r a' → List ℕ
text_of {A} {m} {s} {a} {a'} {input} {output} (wrote _ _ handed _) = cond handed.0 (take s.lines output) []
text_of (took _ _ _ _ _) = []
text_of {A} {m} {s} {a} {a'} {input} {output} (read _ _ got _) = cond got.0 (take s.lines output) []
text_of (stopped _ _ _ _ _ _) = []
