-- The readers of a row, of one that is no choice, of a run, of a record's fields and of one field, which call each other on
-- earlier rows, meet their contracts. The measure is eight times the row's offset, and a little more by the function. The loops'
-- invariant: reading the whole comes to reading what is left.
-- Assumes nothing.
use Prim.Native.Nat.{◌+◌, ◌-◌, ◌*◌}
use mathlib.Core.Path.{◌≡◌}
use lib.ListN.{length}
use Rattle.items.specs.Items.{times}
use Rattle.guard.specs.Readable.{asks_at, asks_from}
use Rattle.parts.specs.Parts.{marked_fields}
use Rattle.parts.proofs.Records.{fields_from}
use Rattle.read_steps.specs.Reads.{state_at, Continues}
use Rattle.reader.proofs.+read_chosen_read_field_read_fields_read_row_read_run.Given as goal

abbrev pub decreases-read_chosen : goal.decreases-read_chosen
decreases-read_chosen l = l.at * 8 + 3

abbrev pub decreases-read_field : goal.decreases-read_field
decreases-read_field l = l.at * 8 + 1

abbrev pub decreases-read_fields : goal.decreases-read_fields
decreases-read_fields l = l.at * 8 + 2

abbrev pub decreases-read_row : goal.decreases-read_row
decreases-read_row l = l.at * 8 + 4

abbrev pub decreases-read_run : goal.decreases-read_run
decreases-read_run l = l.at * 8 + 1

abbrev pub invariant-read_fields-loop-field : goal.invariant-read_fields-loop-field
invariant-read_fields-loop-field l =
    (length l.values ≡ length l.initial.values) × (length l.packed ≡ length l.initial.packed)
    × Continues l.message l.room (marked_fields (asks_from l.table l.at) l.table l.at l.mask) (state_at l.initial.here l.initial.values l.initial.packed)
    (fields_from (asks_from l.table l.at) l.table l.at l.mask l.field) (state_at l.here l.values l.packed)

abbrev pub invariant-read_run-loop : goal.invariant-read_run-loop
invariant-read_run-loop l =
    (length l.values ≡ length l.initial.values) × (length l.packed ≡ length l.initial.packed)
    × Continues l.message l.room (times l.count (asks_at l.table l.row)) (state_at l.initial.here l.initial.values l.initial.packed)
    (times (l.count - l.counter) (asks_at l.table l.row)) (state_at l.here l.values l.packed)
