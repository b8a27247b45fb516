-- What a loaded state keeps of a table that obeys the rules (specs/Summary.antt): the walk over its rows goes to the end, and what it has
-- there is what is kept.
-- Assumes nothing.
use Prim.Native.Nat.{ℕ, zero, suc, ◌+◌, ◌*◌, ◌/◌, ◌%◌, ◌≤◌}
use mathlib.Core.Path.{◌≡◌, refl, sym, ap, ◌∙◌, subst}
use mathlib.Core.List.{List}
use native.Mathlib.Omega.{arith}
use native.Mathlib.Decide.{ℕ_discrete}
use lib.ListN.{length, get_or, set, replicate}
use Rattle.octets.specs.Numbers.{u16}
use Rattle.row.specs.Rows.{row_at}
use Rattle.rules.specs.Rules.{Reach, here, on, Starts, Obeys, depth}
use Rattle.rules.specs.Tests.{row_depth}
use Rattle.rules.specs.Steps.{spread}
use Rattle.table.specs.Summary.{depths_of, Summaries}
use Rattle.rules.proofs.Halves.{length-even, spread-even}
use Rattle.table.proofs.Decides.{Passed, reach_on, row-four, keeps_all}
use Rattle.table.proofs.Walk.{Walked, walk_begins, walk_on, all_kept}

module _ (t : List ℕ) (y : Obeys t) where
  -- what the walk has at the end
  record Ends : Type 0 where
    passed : Passed t (length t) (spread (depths_of t))
    sized : length (depths_of t) ≡ 2048

  ends : {h : List ℕ} {rows last : ℕ} → Walked t (length t) h rows last → Ends
  ends {h} w =
      let e : h ≡ depths_of t = all_kept w in
      record { passed = subst (λ (h : List ℕ). Passed t (length t) (spread h)) e w.ready.depths; sized = sym (ap length e) ∙ w.sized }

  -- from o on, where at most f rows are left
  walk_ends : (f : ℕ) {o : ℕ} {h : List ℕ} {rows last : ℕ} → Walked t o h rows last → length t ≤ o + f → Ends
  walk_ends zero {o} w m = let e : o ≡ length t = omega (arith, w.ready.inside) in ends (rw e at w)
  walk_ends (suc f) {o} {h} {rows} {last} w m = go (ℕ_discrete o (length t)) (walk_ends f)
    where
      go : Dec (o ≡ length t) → (Walked t (o + u16 t o) (set h (o / 2) (row_depth t o (spread h))) (rows + 1) o → length t ≤ o + u16 t o + f → Ends) → Ends
      go (yes e) ih = ends (rw e at w)
      go (no n) ih =
          let s : Starts t o = (w.ready.reached, omega (arith, w.ready.inside)) in
          ih (walk_on w s.1 y.most (keeps_all t o y s)) (omega (arith, row-four (y.rows o s)))

  ended : Ends
  ended = walk_ends (length t) (walk_begins t (replicate 2048 0) refl) (omega arith)

  -- every row starts at an even offset
  reach-even : {o p : ℕ} → Reach t 0 o → Reach t o p → o % 2 ≡ 0 → p % 2 ≡ 0
  reach-even s here e = e
  reach-even {o} s (on l r) e = reach-even (reach_on s l) r (omega (arith, (y.rows o (s, l)).length_right, length-even (row_at t o)))

  start-even : (o : ℕ) → Starts t o → o % 2 ≡ 0
  start-even o s = reach-even here s.0 refl

  at_start : (o : ℕ) → Starts t o → get_or (depths_of t) (o / 2) 0 ≡ depth t o
  at_start o s = sym (spread-even (depths_of t) o (start-even o s)) ∙ ended.passed.known o s.0 s.1

  elsewhere : (i : ℕ) → (Starts t (2 * i) → ⊥) → get_or (depths_of t) i 0 ≡ 0
  elsewhere i n = go (ℕ_discrete (get_or (depths_of t) i 0) 0)
    where
      half : get_or (spread (depths_of t)) (2 * i) 0 ≡ get_or (depths_of t) i 0
      half = let e : 2 * i / 2 ≡ i = omega arith in spread-even (depths_of t) (2 * i) (omega arith) ∙ ap (λ j. get_or (depths_of t) j 0) e

      go : Dec (get_or (depths_of t) i 0 ≡ 0) → get_or (depths_of t) i 0 ≡ 0
      go (yes e) = e
      go (no z) = absurd (n (ended.passed.only (2 * i) (λ e. z (sym half ∙ e))))

pub summaries : Summaries
summaries = record { each = λ t y. record { size = (ended t y).sized; even = start-even t y; depths = at_start t y; elsewhere = elsewhere t y } }
