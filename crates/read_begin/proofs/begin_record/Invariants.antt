-- `read_begin::begin_record` meets its contract. Invariant: reading the record comes to reading the presence bits that are
-- left, with the marks so far.
-- Assumes nothing.
use Prim.Native.Nat.{◌^◌, ◌<◌}
use mathlib.Core.Path.{◌≡◌}
use lib.ListN.{length}
use Rattle.guard.specs.Readable.{asks_at, asks_from}
use Rattle.parts.proofs.Records.{left_after}
use Rattle.read_steps.specs.Reads.{state_at, Continues}
use Rattle.read_begin.proofs.begin_record.Given as goal

abbrev pub invariant-loop-field : goal.invariant-loop-field
invariant-loop-field l = (length l.values ≡ length l.initial.values) × (length l.packed ≡ length l.initial.packed) × (l.mask < 2 ^ l.field)
    × Continues l.message l.room (asks_at l.table l.at) (state_at l.initial.here l.initial.values l.initial.packed) (left_after (asks_from l.table l.at) l.table l.at l.field l.mask) (state_at l.here l.values l.packed)
