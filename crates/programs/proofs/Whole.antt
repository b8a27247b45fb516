-- Laws of the programs as one: a whole unit has its header and lies within the octets; each goes on as its own machine does; all are steady.
use Prim.Native.Nat.{ℕ, ◌≤◌, ◌<◌}
use mathlib.Core.Path.{◌≡◌, refl}
use mathlib.Core.List.{List, ◌++◌}
use lib.ListN.{length}
use Rattle.machine.specs.declared.Front.TheVariants.{Whole, Wrong}
use Rattle.machine.specs.Machine.{Steady}
use Rattle.frames.proofs.Fronts as frames
use Rattle.stages.proofs.Fronts as stages
use Rattle.captures.proofs.Steady as captures
use Rattle.programs.specs.declared.Progress.{Progress}
use Rattle.programs.specs.declared.Progress.TheVariants.{Bench, Capture}
use Rattle.programs.specs.Programs.{header_of, front_of, programs, Apart}

pub whole_within_lem : (p : Progress) (s : List ℕ) (n : ℕ) → front_of p s ≡ Whole n → (header_of p ≤ n) × (n ≤ length s)
whole_within_lem (Bench before) s n e = frames.whole_within_lem s n e
whole_within_lem (Capture stage) s n e = stages.whole_within_lem stage s n e

pub programs-apart : Apart
programs-apart =
    record {
      bench = record { front = λ a s. refl; line = λ a s. refl; next = λ a s. refl; stopped = λ a. refl; ended = λ a s. refl };
      capture = record { front = λ a s. refl; line = λ a s. refl; next = λ a s. refl; stopped = λ a. refl; ended = λ a s. refl };
    }

pub programs-steady : Steady programs
programs-steady =
    record {
      some = λ p s n e. some p s n e;
      stays = λ p s rest n e. stays p s rest n e;
      wrong = λ p s rest e. wrong p s rest e;
    }
  where
    some : (p : Progress) (s : List ℕ) (n : ℕ) → front_of p s ≡ Whole n → (0 < n) × (n ≤ length s)
    some (Bench before) = (frames.bench-steady).some before
    some (Capture stage) = (captures.capture-steady).some stage

    stays : (p : Progress) (s rest : List ℕ) (n : ℕ) → front_of p s ≡ Whole n → front_of p (s ++ rest) ≡ Whole n
    stays (Bench before) = (frames.bench-steady).stays before
    stays (Capture stage) = (captures.capture-steady).stays stage

    wrong : (p : Progress) (s rest : List ℕ) → front_of p s ≡ Wrong → front_of p (s ++ rest) ≡ Wrong
    wrong (Bench before) = (frames.bench-steady).wrong before
    wrong (Capture stage) = (captures.capture-steady).wrong stage
