-- `read_begin::follow` meets its contract. Invariant: reading the row comes to reading the row that the choices so far lead to, which can
-- be read.
-- Assumes nothing.
use Prim.Native.Nat.{◌≤◌}
use mathlib.Core.Path.{◌≡◌}
use lib.ListN.{length}
use Rattle.parts.specs.Parts.{NoChoice}
use Rattle.guard.specs.Readable.{asks_at, Readable}
use Rattle.read_steps.specs.Reads.{state_at, Continues}
use Rattle.read_begin.proofs.follow.Given as goal

abbrev pub invariant-loop-values : goal.invariant-loop-values
invariant-loop-values l = Readable l.table l.row × (l.row ≤ l.at) × (NoChoice l.table l.at → l.row ≡ l.at) × (length l.values ≡ length l.initial.values) × (length l.packed ≡ length l.initial.packed)
    × Continues l.message l.room (asks_at l.table l.at) (state_at l.initial.here l.initial.values l.initial.packed) (asks_at l.table l.row) (state_at l.here l.values l.packed)

abbrev pub decreases-loop-values : goal.decreases-loop-values
decreases-loop-values l = l.row
