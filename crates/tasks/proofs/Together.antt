-- Laws of the tasks as one: each goes on as its own machine does, and all are steady.
use Prim.Native.Nat.{ℕ, ◌≤◌, ◌<◌}
use mathlib.Core.Path.{◌≡◌, refl}
use mathlib.Core.List.{List, [], ◌++◌}
use lib.ListN.{length}
use Rattle.machine.specs.declared.Front.TheVariants.{Whole, Wrong}
use Rattle.machine.specs.Machine.{Steady}
use Rattle.programs.proofs.Whole.{programs-steady}
use Rattle.drive.proofs.Laws.{replay-steady}
use Rattle.tasks.specs.declared.Task.{Task}
use Rattle.tasks.specs.declared.Task.TheVariants.{Read, Replay}
use Rattle.tasks.specs.Tasks.{front_of, tasks, Together}

pub tasks-together : Together
tasks-together =
    record {
      programs = record { front = λ a s. refl; line = λ a s. refl; next = λ a s. refl; stopped = λ a. refl; ended = λ a s. refl };
      replay = record { front = λ a s. refl; line = λ a s. refl; next = λ a s. refl; stopped = λ a. refl; ended = λ a s. refl };
    }

pub tasks-steady : Steady tasks
tasks-steady =
    record {
      some = λ p s n e. some p.task s n e;
      stays = λ p s rest n e. stays p.task s rest n e;
      wrong = λ p s rest e. wrong p.task s rest e;
    }
  where
    some : (t : Task) (s : List ℕ) (n : ℕ) → front_of t s ≡ Whole n → (0 < n) × (n ≤ length s)
    some (Read progress) = programs-steady.some progress
    some Replay = replay-steady.some []

    stays : (t : Task) (s rest : List ℕ) (n : ℕ) → front_of t s ≡ Whole n → front_of t (s ++ rest) ≡ Whole n
    stays (Read progress) = programs-steady.stays progress
    stays Replay = replay-steady.stays []

    wrong : (t : Task) (s rest : List ℕ) → front_of t s ≡ Wrong → front_of t (s ++ rest) ≡ Wrong
    wrong (Read progress) = programs-steady.wrong progress
    wrong Replay = replay-steady.wrong []
