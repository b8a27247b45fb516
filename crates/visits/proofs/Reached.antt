-- The bounds are reached, each fact by one computation over the octets of a table.
-- Assumes nothing.
use mathlib.Core.Path.{◌≡◌, refl}
use mathlib.Core.List.{[], ◌∷◌}
use lib.IntN.{pos}
use Rattle.bits.specs.Bits.{number_of, bits_of, width, unpack}
use Rattle.octets.specs.Numbers.{u16, u32, signed, u16s, there}
use Rattle.row.specs.Offsets.{earlier, up_to, by_offset}
use Rattle.row.specs.Rows.{row_of, row_at, row_length, within}
use Rattle.rules.specs.Rules.{known_kind, flags_in_bounds, numbers_in_bounds, branches, references, some_branch, has_branch}
use Rattle.rules.specs.Tests.{row_verdict, row_depth}
use Rattle.table.specs.Root.{root_from, root}
use Rattle.table.specs.Verdict.{passed, verdict}
use Rattle.table.proofs.Decides.{passes-exactly}
use Rattle.items.specs.Items.{one, times}
use Rattle.encoding.specs.Rows.{row_items}
use Rattle.visits.specs.Visits.{mark, marked, visited_in_reading, visited_in_writing}
use Rattle.table.specs.Cases.{nested}
use Rattle.visits.specs.Reached.{deep, Reached}

deep-passes : verdict deep ≡ passed
unfolding nested deep u16 u32 signed u16s there row_of row_at row_length known_kind within flags_in_bounds numbers_in_bounds branches references some_branch has_branch row_verdict row_depth verdict
deep-passes = refl

deep-visited : (visited_in_reading deep (0 ∷ []) 0 ≡ 32) × (visited_in_writing deep [] 1 ≡ 32)
    × (visited_in_reading deep (0 ∷ []) 1 ≡ 63) × (visited_in_writing deep (pos 0 ∷ []) 1 ≡ 63)
unfolding nested deep u16 u32 signed u16s row_of row_at root_from root earlier up_to by_offset one times row_items number_of bits_of width unpack mark marked
deep-visited = (refl, refl, refl, refl)

pub reached : Reached
reached = record { obeys = (passes-exactly deep).0 deep-passes; reading = deep-visited.0; writing = deep-visited.1; reading_on = deep-visited.2; writing_on = deep-visited.3 }
