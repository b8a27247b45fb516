-- How far apart items stand among the marks, under any table that obeys the rules: before a row's first item and between two of its
-- items there are no more marks than it is deep, none behind its last; and there is a first.
-- Assumes nothing.
use Prim.Native.Nat.{ℕ, zero, suc, ◌≤◌}
use mathlib.Core.Bool.{Bool, true, false, false≢true}
use mathlib.Core.Path.{◌≡◌, refl, sym, subst}
use mathlib.Core.List.{List, [], ◌∷◌}
use native.Mathlib.Omega.{arith}
use lib.Dec.{eqb}
use lib.IntN.{ℤ, pos}
use lib.ListN.{length, replicate}
use Rattle.item.specs.Code.{Code, natural}
use Rattle.row.specs.Offsets.{earlier}
use Rattle.row.specs.Rows.{within, Row, Number, Variable, FixedRun, CountedRun, Record, Choice, Octets, Unknown, row_at}
use Rattle.row.proofs.Offsets.{earlier_is, earlier-out}
use Rattle.rules.specs.Rules.{known_kind, numbers_in_bounds, branches, references, All, Earlier, deepest, depth, Starts, Obeys}
use Rattle.rules.proofs.Depths.{depths}
use Rattle.items.specs.Items.{Items, stop, ask, ◌then◌, one, times}
use Rattle.encoding.specs.Rows.{presence, fields, row_items}
use Rattle.visits.specs.Visits.{mark, is_mark, marked}
use Rattle.encoding.proofs.References.{by_row, all_map, all_branches}
use Rattle.visits.proofs.Rows.{Matched, row-matched}
use Rattle.visits.proofs.Unmarked.{no-mark, marked_row}

-- at most n marks before the first item and at most b between two; the end stands behind an item, or at the start where it may
pub data Spaced (b : ℕ) : (may_end : Bool) → ℕ → Items → Type 0 where
  ends : Spaced b true b stop
  marks : {e : Bool} {n : ℕ} {c : Code} {k : ℤ → Items} → is_mark c ≡ true → Spaced b false n (k (pos 0)) → Spaced b e (suc n) (ask c k)
  asks : {e : Bool} {n : ℕ} {c : Code} {k : ℤ → Items} → is_mark c ≡ false → ((v : ℤ) → Spaced b true b (k v)) → Spaced b e n (ask c k)

module _ {b : ℕ} where
  -- what may not end at the start may stand behind an item
  behind : {n : ℕ} {p : Items} → Spaced b false n p → Spaced b true n p
  behind (marks m s) = marks m s
  behind (asks m s) = asks m s

  spaced-then : {e : Bool} {n : ℕ} {p q : Items} → Spaced b e n p → Spaced b true b q → Spaced b e n (p then q)
  spaced-then ends z = z
  spaced-then (marks m s) z = marks m (spaced-then s z)
  spaced-then (asks m s) z = asks m (λ v. spaced-then (s v) z)

  spaced-times : (n : ℕ) {p : Items} → Spaced b true b p → Spaced b true b (times n p)
  unfolding times
  spaced-times zero s = ends
  spaced-times (suc n) s = spaced-then s (spaced-times n s)

  -- presence bits are items; where there are none, every field is there
  spaced-presence : {e : Bool} {n : ℕ} (flags : List ℕ) (k : List Bool → Items) → ((ps : List Bool) → Spaced b true b (k ps))
      → Spaced b e n (k (replicate (length flags) true)) → Spaced b e n (presence flags k)
  unfolding presence
  spaced-presence {e = e} {n = n} [] k h s = s
  spaced-presence {e = e} {n = n} (zero ∷ flags) k h s = spaced-presence {e = e} {n = n} flags (λ ps. k (true ∷ ps)) (λ ps. h (true ∷ ps)) s
  spaced-presence {e = e} {n = n} (suc f ∷ flags) k h s =
      asks refl (λ v. spaced-presence {e = true} {n = b} flags (λ ps. k (eqb (natural v) 1 ∷ ps)) (λ ps. h (eqb (natural v) 1 ∷ ps)) (h (eqb (natural v) 1 ∷ replicate (length flags) true)))

-- what a row asks for, g giving what the rows before it ask for: at most n marks before its first item
module _ (b n : ℕ) (g : ℕ → Items) where
  -- a row that it refers to, before its first item and behind one
  abbrev Both : ℕ → Type 0
  Both r = Spaced b false n (g r) × Spaced b false b (g r)

  spaced-fields : (rs : List ℕ) → All Both rs → (ps : List Bool) → Spaced b true b (fields g rs ps)
  unfolding fields
  spaced-fields [] h ps = ends
  spaced-fields (r ∷ rs) h [] = ends
  spaced-fields (r ∷ rs) h (true ∷ ps) = spaced-then (behind h.0.1) (spaced-fields rs h.1 ps)
  spaced-fields (r ∷ rs) h (false ∷ ps) = spaced-fields rs h.1 ps

  spaced-row : (row : Row) → known_kind row ≡ true → numbers_in_bounds row ≡ true → Matched row → All Both (references row)
      → Spaced b true b (g 65535) → Spaced b false n (row_items g row)
  unfolding row_items one times fields known_kind numbers_in_bounds within references
  spaced-row (Number low span) k m s h z = asks refl (λ v. ends)
  spaced-row Variable k m s h z = asks refl (λ v. ends)
  spaced-row (FixedRun zero r) k m s h z = absurd (false≢true m)
  spaced-row (FixedRun (suc count) r) k m s h z = spaced-then h.0.0 (spaced-times count (behind h.0.1))
  spaced-row (CountedRun most r) k m s h z = asks refl (λ v. spaced-times (natural v) (behind h.0.1))
  spaced-row (Record [] flags) k m s h z = absurd (false≢true m)
  spaced-row (Record (r ∷ rs) []) k m s h z = absurd (omega (arith, s))
  spaced-row (Record (r ∷ rs) (f ∷ flags)) k m s h z =
      spaced-presence (f ∷ flags) (fields g (r ∷ rs)) (spaced-fields (r ∷ rs) h)
      (spaced-then h.0.0 (spaced-fields rs h.1 (replicate (length flags) true)))
  spaced-row (Choice rs) k m s h z = asks refl (λ v. all_branches (λ r. Spaced b true b (g r)) rs (all_map (λ r s. behind s.1) (branches rs) h) z (natural v))
  spaced-row (Octets least most) k m s h z = asks (no-mark least most m) (λ v. spaced-times (natural v) (asks refl (λ w. ends)))
  spaced-row Unknown k m s h z = absurd (false≢true k)

module _ (t : List ℕ) (obeys : Obeys t) where
  -- the row at o, for whatever is no less than its depth
  abbrev AtRow : ℕ → Type 0
  AtRow o = (b n : ℕ) → depth t o ≤ n → depth t o ≤ b → Spaced b false n (marked t o)

  referred : (o b n : ℕ) → ((r : ℕ) → Earlier t o r → AtRow r) → (rs : List ℕ) → All (Earlier t o) rs
      → deepest (depth t) rs ≤ n → deepest (depth t) rs ≤ b → All (Both b n (earlier stop o (marked t))) rs
  referred o b n ih [] h l m = tt
  referred o b n ih (r ∷ rs) h l m =
      let e = sym (earlier_is stop o (marked t) r h.0.1) in (
        (
          subst (Spaced b false n) e (ih r h.0 b n (omega arith) (omega arith)),
          subst (Spaced b false b) e (ih r h.0 b b (omega arith) (omega arith)),
        ),
        referred o b n ih rs h.1 (omega arith) (omega arith),
      )

  spaced_at : (o : ℕ) → Starts t o → ((r : ℕ) → Earlier t o r → AtRow r) → AtRow o
  unfolding mark
  spaced_at o s ih b zero l m =
      let d = (depths t).row o (obeys.rows o s).references_earlier in
      absurd (omega (arith, d))
  spaced_at o s ih b (suc n) l m =
      let x = obeys.rows o s in
      let d = (depths t).row o x.references_earlier in
      let g = earlier stop o (marked t) in
      let z : Spaced b true b (g 65535) = subst (Spaced b true b) (sym (earlier-out stop o (marked t) 65535 (omega (arith, obeys.most, s.1)))) ends in
      subst (Spaced b false (suc n)) (sym (marked_row t o))
      (marks refl
      (spaced-row b n g (row_at t o) x.kind_known x.numbers_right (row-matched t o)
      (referred o b n ih (references (row_at t o)) x.references_earlier (omega (arith, d)) (omega (arith, d))) z))

  pub spaced : (o : ℕ) → Starts t o → AtRow o
  spaced = by_row t AtRow spaced_at
