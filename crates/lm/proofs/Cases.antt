-- The papers' cases come out of the definitions, by computation.
-- Assumes nothing.
use mathlib.Core.Path.{refl}
use Rattle.octets.specs.Numbers.{u16, u32, signed, u16s, there}
use Rattle.bits.specs.Bits.{number_of, bits_of, width, unpack}
use Rattle.row.specs.Offsets.{earlier, up_to, by_offset}
use Rattle.row.specs.Rows.{row_of, row_at, row_length, within}
use Rattle.rules.specs.Rules.{known_kind, flags_in_bounds, numbers_in_bounds, branches, references, some_branch, has_branch}
use Rattle.rules.specs.Tests.{row_depth, row_verdict}
use Rattle.table.specs.Verdict.{verdict}
use Rattle.table.specs.Root.{root_from, root}
use Rattle.items.specs.Items.{one, times}
use Rattle.encoding.specs.Rows.{presence, fields, row_items, items, asks}
use Rattle.encoding.specs.Reading.{read_outcome}
use Rattle.builtin.specs.Tables.{lm, sam, srm}
use Rattle.lm.specs.ByName.{lm_version, lm_subtype, read_lm_outcome, write_lm_outcome}
use Rattle.lm.specs.Cases.{cases, empty_cases, Given}

pub given : Given
unfolding cases empty_cases lm sam srm lm_version lm_subtype read_lm_outcome write_lm_outcome read_outcome asks items row_items fields presence times one root_from root verdict row_verdict row_depth has_branch some_branch references branches numbers_in_bounds flags_in_bounds within known_kind row_length row_at row_of earlier up_to by_offset there unpack width bits_of number_of u16 u32 signed u16s
given = record { outcomes = refl; empty_outcomes = refl; empty_unwritten = refl }
