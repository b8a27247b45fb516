-- Writing under a lent table (document 01, "Refusal numbers"): the table's own refusal, then what the table asks for is written
-- from the list (items' specs/Writing.antt).
use Rattle.std.specs.Prelude.{ℕ, List, ℤ}
use Rattle.table.specs.Verdict.{Verdict, passed, broken, verdict}
use Rattle.items.specs.Writing.{WriteOutcome, unwritten, encode}
use Rattle.encoding.specs.Rows.{asks}

-- a table's own refusal first
abbrev pub on_passed : Verdict → WriteOutcome → WriteOutcome
on_passed passed x = x
on_passed (broken refusal) x = unwritten refusal

-- writing under a lent table: its fault, then the list
unfoldable pub write_outcome : List ℕ → List ℤ → ℕ → WriteOutcome
write_outcome t vs cap = on_passed (verdict t) (encode (asks t) vs cap)
