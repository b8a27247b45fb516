-- A program as a whole, for any machine: the turns of a run, and that they give the machine's text for the octets that they read.
-- No contract can speak of what was read or written. So the octets that a turn read are those that then stand in the input behind the
-- octets at hand, and the text that it wrote is the lines that stood in the output, where it took them, which are then held no more.
use Rattle.std.specs.Prelude.{ℕ, ◌+◌, ◌≡◌, List, [], ◌++◌, take}
use Rattle.lines.specs.Text.{Appended}
use Rattle.machine.specs.Machine.{Machine, Gives}
use Rattle.buffers.specs.declared.State.{State}
use Rattle.buffers.specs.declared.Led.{Led}
use Rattle.buffers.specs.declared.Led.TheVariants.{Next, End, Stop, Lost}
use Rattle.turns.specs.Turns.{Turned, octets_of, text_of}
use Rattle.stream.specs.LastLines.{lines_of, last_text}

-- what is held at the start
abbrev pub begin : State
begin = record { from = 0; end = 0; lines = 0 }

-- Turns from the start on: the octets that they read and the text that they wrote, one after another, however few or many came at a
-- time; how many turns they are, the buffers after them, what the last one led to, and the machine's state.
pub data Ran {A : Type 0} (m : Machine A) (first : A) : List ℕ → List ℕ → ℕ → List ℕ → List ℕ → Led → A → Type 0 where
  start : (input output : List ℕ) → Ran m first [] [] 0 input output (Next begin) first
  turn : {octets text input output input' output' : List ℕ} {turns : ℕ} {s : State} {r : Led} {a a' : A}
      → Ran m first octets text turns input output (Next s) a → (t : Turned m s a input output input' output' r a')
      → Ran m first (octets ++ octets_of t) (text ++ text_of t) (turns + 1) input' output' r a'

-- A run ends by its turns alone, or after as many as 64 bits count.
pub record Finished {A : Type 0} (m : Machine A) (first : A) (input output : List ℕ) (r : Led) (a : A) : Type 0 where
  pub octets : List ℕ
  pub text : List ℕ
  pub turns : ℕ
  pub ran : Ran m first octets text turns input output r a
  pub all : (s : State) → r ≡ Next s → turns ≡ 18446744073709551615

-- the input ended, or a unit was wrong
abbrev pub Ended : Led → Type 0
Ended (Next s) = ⊥
Ended (End s) = Unit {0}
Ended (Stop s) = Unit {0}
Ended Lost = ⊥

-- a unit was wrong, and what the input has behind the octets that were read was not looked at
abbrev pub Stopped : Led → Type 0
Stopped (Next s) = ⊥
Stopped (End s) = ⊥
Stopped (Stop s) = Unit {0}
Stopped Lost = ⊥

-- The whole program: its turns, and then the output with the last lines behind those that are held, up to an end. Where the input ended
-- or a unit was wrong, the text that the turns wrote and then the output are the machine's text for the octets that they read; where a unit
-- was wrong, it is the text for these octets with any others behind them, so for the whole input.
pub record Answered {A : Type 0} (m : Machine A) (first : A) (output' : List ℕ) (end : ℕ) : Type 0 where
  pub input : List ℕ
  pub output : List ℕ
  pub last : Led
  pub left : A
  pub finished : Finished m first input output last left
  pub lines : Appended output (lines_of last) (last_text m left input last) output' end
  pub gives : Ended last → Gives m first finished.octets (finished.text ++ take end output') left
  pub stops : Stopped last → (rest : List ℕ) → Gives m first (finished.octets ++ rest) (finished.text ++ take end output') left
