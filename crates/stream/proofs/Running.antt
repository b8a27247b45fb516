-- The turns of a run so far.
use Prim.Native.Nat.{ℕ, ◌+◌}
use mathlib.Core.List.{List}
use Rattle.buffers.specs.declared.State.{State}
use Rattle.buffers.specs.declared.Led.TheVariants.{Next}
use Rattle.programs.specs.declared.Progress.{Progress}
use Rattle.programs.specs.Programs.{programs}
use Rattle.turns.specs.Turns.{Turned}
use Rattle.stream.specs.Program.{Ran, turn}

pub record Running (first : Progress) (input output : List ℕ) (s : State) (progress : Progress) (done : ℕ) : Type 0 where
  pub octets : List ℕ
  pub text : List ℕ
  pub ran : Ran programs first octets text done input output (Next s) progress

pub more : {first progress progress' : Progress} {input output input' output' : List ℕ} {s r : State} {done : ℕ} → Running first input output s progress done
    → Turned programs s progress input output input' output' (Next r) progress' → Running first input' output' r progress' (done + 1)
more so t = record { octets = _; text = _; ran = turn so.ran t }
