-- `lm_sections::read_sections` meets its contract. Invariant: reading an LM comes to reading it from the section that follows on.
-- Assumes nothing.
use Prim.Native.Nat.{◌%◌}
use mathlib.Core.Path.{◌≡◌}
use lib.ListN.{length}
use Rattle.read_steps.specs.Reads.{state_at, Continues}
use Rattle.lm_items.specs.Asked.{rank, asked}
use Rattle.lm_items.specs.declared.Section.TheVariants.{Network}
use Rattle.lm_sections.proofs.read_sections.Given as goal

abbrev pub invariant-loop-section : goal.invariant-loop-section
invariant-loop-section l = (length l.values ≡ length l.initial.values) × (length l.packed ≡ length l.initial.packed) × (l.here.place.0 % 8 ≡ 0)
    × Continues l.message l.room (asked Network) (state_at l.initial.here l.initial.values l.initial.packed) (asked l.section) (state_at l.here l.values l.packed)

abbrev pub decreases-loop-section : goal.decreases-loop-section
decreases-loop-section l = rank l.section
