-- Reading under a lent table (document 01, "Refusal numbers"): the table's own refusal, then 13, then what the table asks for is
-- read from all of the octets (items' specs/Reading.antt).
use Rattle.std.specs.Prelude.{ℕ, cond, List, leb, length}
use Rattle.bits.specs.Access.{most_octets}
use Rattle.answer.specs.Numbers.{too_long, refusal_at}
use Rattle.table.specs.Verdict.{Verdict, passed, broken, verdict}
use Rattle.items.specs.Reading.{ReadOutcome, refuse, decode}
use Rattle.encoding.specs.Rows.{asks}

-- a table's own refusal first
abbrev pub on_passed : Verdict → ReadOutcome → ReadOutcome
on_passed passed x = x
on_passed (broken refusal) x = refuse refusal

-- reading under a lent table: its fault, 13, then the message
unfoldable pub read_outcome : List ℕ → List ℕ → ℕ → ReadOutcome
read_outcome t s room = on_passed (verdict t) (cond (leb (length s) most_octets) (decode (asks t) s room) (refuse (refusal_at too_long 0)))
