-- What the pass over a table finds, and the check's answer by it.
-- Assumes nothing.
use Prim.Native.Nat.{ℕ, ◌≤◌}
use mathlib.Core.Path.{◌≡◌, refl, sym, ap, ap₂, ◌∙◌}
use mathlib.Core.List.{List}
use native.Mathlib.Omega.{arith}
use lib.ListN.{length}
use Rattle.answer.specs.declared.Refusal.{Refusal}
use Rattle.answer.specs.Numbers.{refusal_at, accepted}
use Rattle.rules.specs.Rules.{Obeys}
use Rattle.table.specs.Faults.{Fault}
use Rattle.table.specs.Verdict.{Verdict, passed, broken, verdict, checked}
use Rattle.table.specs.Summary.{depths_of}
use Rattle.table.specs.Found.{found_by, pass_of}
use Rattle.table.proofs.Decides.{passes-exactly, refuses-exactly}
use Rattle.table.proofs.LastRow.{is_root}
use Rattle.table.proofs.Walk.{Walked, all_counted, all_kept, all_obeyed}
use Rattle.table.specs.declared.pass.Found.{Found}
use Rattle.std.proofs.Common.{Result, Ok, Err}

-- so many rows, with the root
abbrev found_of : ℕ → ℕ → Result Found Refusal
found_of rows root = Ok (record { rows = rows; root = root })

-- what a fault finds, whatever is kept
pub finds-fault : (t h : List ℕ) (n o : ℕ) → Fault t n o → (Err (refusal_at n o) ≡ pass_of t) × (verdict t ≡ passed → h ≡ depths_of t)
unfolding pass_of
finds-fault t h n o f =
    let e = (refuses-exactly t n o).1 f in
    (sym (ap (λ v. found_by v t) e), λ p. absurd (let z : ◌≡◌ {A = ℕ} 0 1 = cc in omega arith))

-- and the end of the walk
pub finds-rows : {t h : List ℕ} {rows last : ℕ} → 4 ≤ length t → length t ≤ 4096 → Walked t (length t) h rows last
    → (found_of rows last ≡ pass_of t) × (verdict t ≡ passed → h ≡ depths_of t)
unfolding pass_of
finds-rows {t} {h} {rows} {last} least most w =
    let y : Obeys t = all_obeyed w least most in
    let l = w.last_row (λ e. omega arith) in (
      ap₂ found_of (all_counted w) (is_root t y last (record { starts = l.0; last = l.1 })) ∙ sym (ap (λ v. found_by v t) ((passes-exactly t).1 y)),
      λ p. all_kept w,
    )

-- ── the check ──

module _ (t : List ℕ) where
  pub rows-checked : (found : Found) → pass_of t ≡ Ok found → accepted 0 0 0 ≡ checked (verdict t)
  unfolding pass_of
  rows-checked found e = go (verdict t) e
    where
      go : (v : Verdict) → found_by v t ≡ Ok found → accepted 0 0 0 ≡ checked v
      go passed e = refl
      go (broken r) e = absurd (let z : ◌≡◌ {A = ℕ} 0 1 = cc in omega arith)

  pub breaks-checked : (refusal : Refusal) → pass_of t ≡ Err refusal → Err refusal ≡ checked (verdict t)
  unfolding pass_of
  breaks-checked refusal e = go (verdict t) e
    where
      go : (v : Verdict) → found_by v t ≡ Err refusal → Err refusal ≡ checked v
      go passed e = absurd (let z : ◌≡◌ {A = ℕ} 0 1 = cc in omega arith)
      go (broken r) e = ap Err (cc)
