-- From the check's answer to the verdict: the outcome under a table that passed, and under one that didn't.
-- Assumes nothing.
use Prim.Native.Nat.{ℕ}
use mathlib.Core.Path.{◌≡◌, refl, sym, ◌∙◌}
use mathlib.Core.List.{List, []}
use native.Mathlib.Omega.{arith}
use lib.IntN.{ℤ}
use Rattle.answer.specs.Numbers.{Answer}
use Rattle.answer.specs.declared.Refusal.{Refusal}
use Rattle.rules.specs.Rules.{Obeys}
use Rattle.table.specs.Verdict.{Verdict, passed, broken, verdict, checked}
use Rattle.table.proofs.Decides.{passes-exactly}
use Rattle.encoding.specs.Rows.{asks}
use Rattle.items.specs.Writing.{encode, write_answer, write_octets}
use Rattle.encoding.specs.Writing.{on_passed, write_outcome}
use Rattle.std.proofs.Common.{Err}

pub write-passed : (t : List ℕ) (vs : List ℤ) (cap : ℕ) → Obeys t → write_outcome t vs cap ≡ encode (asks t) vs cap
unfolding write_outcome
write-passed t vs cap h = rw ((passes-exactly t).1 h)

pub write-broken : (t : List ℕ) (vs : List ℤ) (cap : ℕ) (r : Answer) (refusal : Refusal) → r ≡ checked (verdict t) → r ≡ Err refusal
    → (r ≡ write_answer (write_outcome t vs cap)) × (write_octets (write_outcome t vs cap) ≡ [])
unfolding write_outcome
write-broken t vs cap r refusal e a = go (verdict t) (sym e ∙ a) e
  where
    go : (v : Verdict) → checked v ≡ Err refusal → r ≡ checked v
        → (r ≡ write_answer (on_passed v (encode (asks t) vs cap))) × (write_octets (on_passed v (encode (asks t) vs cap)) ≡ [])
    go passed q e = let z : ◌≡◌ {A = ℕ} 0 1 = cc in absurd (omega arith)
    go (broken by) q e = (e, refl)
