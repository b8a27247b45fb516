-- What loading leaves in a state, by what the pass over the table found (document 02, ticket 3).
-- Assumes nothing.
use Prim.Native.Nat.{ℕ, ◌≤◌}
use mathlib.Core.Path.{◌≡◌, refl, sym, ap, ◌∙◌}
use mathlib.Core.List.{List}
use native.Mathlib.Omega.{arith}
use lib.ListN.{length}
use Rattle.answer.specs.declared.Refusal.{Refusal}
use Rattle.table.specs.Verdict.{Verdict, passed, broken, verdict}
use Rattle.table.specs.Root.{root}
use Rattle.table.specs.Summary.{row_count, depths_of}
use Rattle.table.specs.Found.{found_by, pass_of}
use Rattle.table.specs.declared.pass.Found.{Found}
use Rattle.table.proofs.Decides.{passes-exactly}
use Rattle.loading.specs.State.{state_with, state_of, loaded_as, loaded_by}
use Rattle.std.proofs.Common.{Ok, Err}

module _ (st t : List ℕ) where
  pub loaded-passed : verdict t ≡ passed → loaded_by st t ≡ state_of t
  unfolding loaded_by
  loaded-passed e = ap (λ v. loaded_as v st t) e

  pub loaded-broken : (refusal : Refusal) → verdict t ≡ broken refusal → loaded_by st t ≡ st
  unfolding loaded_by
  loaded-broken refusal e = ap (λ v. loaded_as v st t) e

  -- where the pass counted the rows
  module _ (f : Found) (found : pass_of t ≡ Ok f) where
    counted : (verdict t ≡ passed) × (f.rows ≡ row_count t) × (f.root ≡ root t)
    unfolding pass_of
    counted = go (verdict t) refl found
      where
        go : (v : Verdict) → verdict t ≡ v → found_by v t ≡ Ok f → (verdict t ≡ passed) × (f.rows ≡ row_count t) × (f.root ≡ root t)
        go passed h e = let same : ◌≡◌ {A = Found} (record { rows = row_count t; root = root t }) f = cc in (h, sym (ap (λ (x : Found). x.rows) same), sym (ap (λ (x : Found). x.root) same))
        go (broken r) h e = absurd (let z : ◌≡◌ {A = ℕ} 0 1 = cc in omega arith)

    pub rows-passed : verdict t ≡ passed
    rows-passed = counted.0

    pub rows-most : length t ≤ 4096
    rows-most = ((passes-exactly t).0 rows-passed).most

    pub rows-loaded : (d st' : List ℕ) → d ≡ depths_of t → st' ≡ state_with t d f.rows f.root → st' ≡ loaded_by st t
    unfolding state_of
    rows-loaded d st' e s = s ∙ rw (e, counted.1, counted.2) (sym (loaded-passed rows-passed))

  -- where it found a rule broken
  pub breaks_kept : (refusal : Refusal) → pass_of t ≡ Err refusal → st ≡ loaded_by st t
  unfolding pass_of
  breaks_kept refusal found = go (verdict t) refl found
    where
      go : (v : Verdict) → verdict t ≡ v → found_by v t ≡ Err refusal → st ≡ loaded_by st t
      go passed h e = absurd (let z : ◌≡◌ {A = ℕ} 0 1 = cc in omega arith)
      go (broken r) h e = sym (loaded-broken r h)
