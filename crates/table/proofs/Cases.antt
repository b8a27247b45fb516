-- The corners of specs/Cases.antt come out of the definitions, by computation.
-- Assumes nothing.
use mathlib.Core.Path.{refl}
use Rattle.octets.specs.Numbers.{u16, u32, signed, u16s, there}
use Rattle.row.specs.Rows.{row_of, row_at, row_length, within}
use Rattle.rules.specs.Rules.{known_kind, flags_in_bounds, numbers_in_bounds, branches, references, some_branch, has_branch}
use Rattle.rules.specs.Tests.{row_verdict, row_depth}
use Rattle.table.specs.Verdict.{verdict}
use Rattle.table.specs.Cases.{nested, around, table_cases, TablesGiven}

pub tables-given : TablesGiven
unfolding table_cases around nested verdict row_verdict row_depth has_branch some_branch references branches numbers_in_bounds flags_in_bounds known_kind within row_length row_at row_of there u16 u32 signed u16s
tables-given = record { verdicts = refl }
