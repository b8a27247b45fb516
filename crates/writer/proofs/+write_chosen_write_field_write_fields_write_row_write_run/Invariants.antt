-- The writers of a row, of one that is no choice, of a run, of a record's fields and of one field, which call each other on
-- earlier rows, meet their contracts. The measure is eight times the row's offset, and a little more by the function. The loops'
-- invariant: writing the whole comes to writing what is left.
-- Assumes nothing.
use Prim.Native.Nat.{◌+◌, ◌-◌, ◌*◌}
use mathlib.Core.Path.{◌≡◌}
use lib.ListN.{length}
use Rattle.items.specs.Items.{times}
use Rattle.encoding.specs.Rows.{items}
use Rattle.parts.specs.Parts.{marked_fields}
use Rattle.parts.proofs.Records.{fields_from}
use Rattle.write_steps.specs.Writes.{list_in, state_at, Continues}
use Rattle.writer.proofs.+write_chosen_write_field_write_fields_write_row_write_run.Given as goal

abbrev pub decreases-write_chosen : goal.decreases-write_chosen
decreases-write_chosen l = l.at * 8 + 3

abbrev pub decreases-write_field : goal.decreases-write_field
decreases-write_field l = l.at * 8 + 1

abbrev pub decreases-write_fields : goal.decreases-write_fields
decreases-write_fields l = l.at * 8 + 2

abbrev pub decreases-write_row : goal.decreases-write_row
decreases-write_row l = l.at * 8 + 4

abbrev pub decreases-write_run : goal.decreases-write_run
decreases-write_run l = l.at * 8 + 1

abbrev pub invariant-write_fields-loop-field : goal.invariant-write_fields-loop-field
invariant-write_fields-loop-field l = (length l.output ≡ length l.initial.output)
    × Continues (list_in l.values l.packed) (marked_fields (items l.table) l.table l.at l.mask) (state_at l.initial.here l.initial.output)
    (fields_from (items l.table) l.table l.at l.mask l.field) (state_at l.here l.output)

abbrev pub invariant-write_run-loop : goal.invariant-write_run-loop
invariant-write_run-loop l = (length l.output ≡ length l.initial.output)
    × Continues (list_in l.values l.packed) (times l.count (items l.table l.row)) (state_at l.initial.here l.initial.output)
    (times (l.count - l.counter) (items l.table l.row)) (state_at l.here l.output)
