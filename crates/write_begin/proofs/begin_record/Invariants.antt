-- `write_begin::begin_record` meets its contract. Invariant: writing the record comes to writing the presence values that are
-- left, with the marks so far.
-- Assumes nothing.
use Prim.Native.Nat.{◌^◌, ◌<◌}
use mathlib.Core.Path.{◌≡◌}
use lib.ListN.{length}
use Rattle.encoding.specs.Rows.{items}
use Rattle.parts.proofs.Records.{left_after}
use Rattle.write_steps.specs.Writes.{list_in, state_at, Continues}
use Rattle.write_begin.proofs.begin_record.Given as goal

abbrev pub invariant-loop-field : goal.invariant-loop-field
invariant-loop-field l = (length l.output ≡ length l.initial.output) × (l.mask < 2 ^ l.field)
    × Continues (list_in l.values l.packed) (items l.table l.at) (state_at l.initial.here l.initial.output) (left_after (items l.table) l.table l.at l.field l.mask) (state_at l.here l.output)
