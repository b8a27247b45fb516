-- Laws of what the octets of a capture file begin with, wherever a reader is in it.
use Prim.Native.Nat.{ℕ, ◌≤◌, ◌<◌}
use mathlib.Core.Path.{◌≡◌}
use mathlib.Core.List.{List, ◌++◌}
use native.Mathlib.Omega.{arith}
use lib.ListN.{length}
use Rattle.machine.specs.declared.Front.TheVariants.{Whole, Wrong}
use Rattle.stages.specs.declared.Stage.{Stage}
use Rattle.stages.specs.declared.Stage.TheVariants.{Opening, Records}
use Rattle.stages.specs.Stages.{header_of, front_of}
use Rattle.stages.proofs.Headers.{file_whole, file-stays, file-stays-wrong, record_whole, record-stays, record-stays-wrong}

-- a whole unit has its header and lies within the octets
pub whole_within_lem : (a : Stage) (s : List ℕ) (n : ℕ) → front_of a s ≡ Whole n → (header_of a ≤ n) × (n ≤ length s)
whole_within_lem Opening s n e =
    let k = file_whole s n e in
    (omega (arith, k.1), omega (arith, k.0, k.1))
whole_within_lem (Records order before) s n e =
    let k = record_whole order s n e in
    (omega (arith, k.3), omega (arith, k.2, k.3))

pub some_octets : (a : Stage) → 0 < header_of a
some_octets Opening = omega arith
some_octets (Records order before) = omega arith

pub stays : (a : Stage) (s rest : List ℕ) (n : ℕ) → front_of a s ≡ Whole n → front_of a (s ++ rest) ≡ Whole n
stays Opening s rest n e = file-stays s rest n e
stays (Records order before) s rest n e = record-stays order s rest n e

pub stays-wrong : (a : Stage) (s rest : List ℕ) → front_of a s ≡ Wrong → front_of a (s ++ rest) ≡ Wrong
stays-wrong Opening s rest e = file-stays-wrong s rest e
stays-wrong (Records order before) s rest e = record-stays-wrong order s rest e
