-- The verdict on a table: one pass over its rows that decides the rules. A reader need not believe it: that it passes a table exactly
-- when the table obeys them, and else tells its fault, is Checks (Checks.antt).
use Rattle.std.specs.Prelude.{ℕ, zero, suc, ◌+◌, cond, ◌&&◌, List, leb, eqb, length, set, replicate, Err}
use Rattle.octets.specs.Numbers.{u16}
use Rattle.answer.specs.Numbers.{Answer, refusal_at, accepted, table_size}
use Rattle.answer.specs.declared.Refusal.{Refusal}
use Rattle.rules.specs.Rules.{part_number}
use Rattle.rules.specs.Tests.{RowVerdict, sound, faulty, row_verdict, row_depth}

-- passed, or broken: the refusal
pub data Verdict : Type 0 where
  passed : Verdict
  broken : Refusal → Verdict

-- a row at o that breaks a rule is the end
abbrev pub on_sound : RowVerdict → ℕ → Verdict → Verdict
on_sound sound o v = v
on_sound (faulty part) o v = broken (refusal_at (part_number part) o)

-- the rows from o on, at most f of them; a table of n octets never has more than n
abbrev pub scan : ℕ → List ℕ → ℕ → List ℕ → Verdict
scan zero t o d = broken (refusal_at table_size 0)
scan (suc f) t o d = cond (eqb o (length t)) passed (on_sound (row_verdict t o d) o (scan f t (o + u16 t o) (set d o (row_depth t o d))))

-- its size, then its rows
unfoldable pub verdict : List ℕ → Verdict
verdict t = cond (leb 4 (length t) && leb (length t) 4096) (scan (suc (length t)) t 0 (replicate 4096 0)) (broken (refusal_at table_size 0))

-- the check's answer; an accepted check counts nothing
abbrev pub checked : Verdict → Answer
checked passed = accepted 0 0 0
checked (broken refusal) = Err refusal
