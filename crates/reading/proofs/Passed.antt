-- From the check's answer to the verdict, and the outcome under a table that passed.
-- Assumes nothing.
use Prim.Native.Nat.{ℕ}
use mathlib.Core.Path.{◌≡◌, refl, sym, ◌∙◌}
use mathlib.Core.List.{List, []}
use native.Mathlib.Omega.{arith}
use Rattle.answer.specs.Numbers.{Answer}
use Rattle.answer.specs.declared.Counts.{Counts}
use Rattle.answer.specs.declared.Refusal.{Refusal}
use Rattle.rules.specs.Rules.{Obeys}
use Rattle.table.specs.Verdict.{Verdict, passed, broken, verdict, checked}
use Rattle.table.proofs.Decides.{passes-exactly}
use Rattle.items.specs.Reading.{read_answer, read_values}
use Rattle.encoding.specs.Reading.{on_passed, read_outcome}
use Rattle.reading.specs.Outcome.{message_outcome}
use Rattle.std.proofs.Common.{Ok, Err}

-- ── the verdict ──

pub accepted-passed : (v : Verdict) (counts : Counts) → checked v ≡ Ok counts → v ≡ passed
accepted-passed passed counts e = refl
accepted-passed (broken by) counts e = let z : ◌≡◌ {A = ℕ} 0 1 = cc in absurd (omega arith)

pub accepted-obeys : (t : List ℕ) (r : Answer) (counts : Counts) → r ≡ checked (verdict t) → r ≡ Ok counts → Obeys t
accepted-obeys t r counts e a = (passes-exactly t).0 (accepted-passed (verdict t) counts (sym e ∙ a))

-- the outcome under a table that passed
pub passed-outcome : (t s : List ℕ) (room : ℕ) → Obeys t → read_outcome t s room ≡ message_outcome t s room
unfolding read_outcome
passed-outcome t s room h = rw ((passes-exactly t).1 h)

-- and under one that didn't
pub broken-outcome : (t s : List ℕ) (room : ℕ) (r : Answer) (refusal : Refusal) → r ≡ checked (verdict t) → r ≡ Err refusal
    → (r ≡ read_answer (read_outcome t s room)) × (read_values (read_outcome t s room) ≡ [])
unfolding read_outcome
broken-outcome t s room r refusal e a = go (verdict t) (sym e ∙ a) e
  where
    go : (v : Verdict) → checked v ≡ Err refusal → r ≡ checked v → (r ≡ read_answer (on_passed v (message_outcome t s room))) × (read_values (on_passed v (message_outcome t s room)) ≡ [])
    go passed q e = let z : ◌≡◌ {A = ℕ} 0 1 = cc in absurd (omega arith)
    go (broken by) q e = (e, refl)
