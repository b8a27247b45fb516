-- `lm_strings::strings` meets its contract. Invariant: reading the strings comes to reading those that are left.
-- Assumes nothing.
use Prim.Native.Nat.{◌-◌, ◌%◌}
use mathlib.Core.Path.{◌≡◌}
use lib.ListN.{length}
use Rattle.items.specs.Items.{times}
use Rattle.read_steps.specs.Reads.{state_at, Continues}
use Rattle.lm_items.specs.Asked.{string_items}
use Rattle.lm_strings.proofs.strings.Given as goal

abbrev pub invariant-loop : goal.invariant-loop
invariant-loop l = (length l.values ≡ length l.initial.values) × (length l.packed ≡ length l.initial.packed) × (l.here.place.0 % 8 ≡ 0)
    × Continues l.message l.room (times l.count (string_items l.kind)) (state_at l.initial.here l.initial.values l.initial.packed) (times (l.count - l.counter) (string_items l.kind)) (state_at l.here l.values l.packed)
