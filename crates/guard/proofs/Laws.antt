-- The tests of a row that can be read, one by one: each that fails settles the answer.
-- Assumes nothing.
use Prim.Native.Nat.{ℕ, suc, ◌+◌, ◌*◌, ◌≤◌, ◌<◌}
use mathlib.Core.Bool.{true, false}
use mathlib.Core.Path.{◌≡◌, refl, sym, ap, ◌∙◌}
use mathlib.Core.Logic.{◌≢◌}
use mathlib.Core.List.{List, ◌∷◌}
use native.Mathlib.Omega.{arith}
use native.Mathlib.Numerals.{add-one}
use lib.Dec.{leb}
use lib.ListN.{drop}
use lib.Seq.{drop-cons, drop-length}
use borrow.Author.Tests.{le-leb, lt-leb, lt-ltb, le-ltb}
use Rattle.octets.specs.Numbers.{u16, u16s}
use Rattle.octets.proofs.Numbers.{length-u16s, get_d_u16s}
use Rattle.row.specs.Rows.{row_of, row_at, within}
use Rattle.row.specs.Kinds.{by_kind, length_of, least_count, most_count, count_of}
use Rattle.row.proofs.Bools.{and-false, and-true}
use Rattle.row.proofs.ByKind.{Kind, number, variable, fixed, counted, group, choice, octets, open_octets, none, kind_of, by_kind_none}
use Rattle.encoding.specs.Guarded.{fits_as, fits, held_depth, leads, all_lead, opens, enters}

-- no row is longer than its count allows
pub length_most : (k m : ℕ) → length_of k m ≤ 12 + 4 * m
unfolding by_kind length_of
length_most k m = go (kind_of k)
  where
    go : {k : ℕ} → Kind k → length_of k m ≤ 12 + 4 * m
    go number = omega arith
    go variable = omega arith
    go fixed = omega arith
    go counted = omega arith
    go group = omega arith
    go choice = omega arith
    go octets = omega arith
    go open_octets = omega arith
    go {k} (none n) = let e : length_of k m ≡ 0 = by_kind_none _ _ _ _ _ _ _ _ _ k n in omega arith

-- a number that is not too small is in bounds if it is not too large
pub within_most : (least most n : ℕ) → least ≤ n → within least most n ≡ leb n most
unfolding within
within_most least most n h = rw (le-leb least n h)

-- ── a row of a kind ──

module _ (st : List ℕ) (o : ℕ) where
  pub far-unfit : 4096 < o + 4 → false ≡ fits st o
  unfolding fits_as
  far-unfit h = rw (lt-leb (o + 4) 4096 h)

  pub kind-unfit : within 1 8 (u16 st (o + 2)) ≡ false → false ≡ fits st o
  unfolding fits_as
  kind-unfit h = rw h (sym (simp and-false))

  module _ (k m : ℕ) (count-is : m ≡ count_of st o k) where
    pub long-unfit : 4096 < o + length_of k m → false ≡ fits_as st o k
    unfolding fits_as
    long-unfit h = rw (← count-is, lt-leb (o + length_of k m) 4096 h) (sym (simp and-false))

    pub fits_counted : o + 4 ≤ 4096 → within 1 8 k ≡ true → o + length_of k m ≤ 4096 → within (least_count k) (most_count k) m ≡ fits_as st o k
    unfolding fits_as
    fits_counted a b c = rw (← count-is, le-leb (o + 4) 4096 a, b, le-leb (o + length_of k m) 4096 c)

-- ── a row referred to ──

module _ (st : List ℕ) (o r : ℕ) where
  pub later-apart : o ≤ r → false ≡ leads st o r
  unfolding leads
  later-apart h = rw (le-ltb r o h)

  pub none_apart : held_depth st r ≡ 0 → false ≡ leads st o r
  unfolding leads
  none_apart h = rw h (sym (simp and-false))

  pub deeper-apart : held_depth st o ≤ held_depth st r → false ≡ leads st o r
  unfolding leads
  deeper-apart h = rw (le-ltb (held_depth st r) (held_depth st o) h) (sym (simp and-false))

  pub lower-leads : r < o → 0 < held_depth st r → held_depth st r < held_depth st o → fits st r ≡ leads st o r
  unfolding leads
  lower-leads a b c = rw (lt-ltb r o a, lt-ltb 0 (held_depth st r) b, lt-ltb (held_depth st r) (held_depth st o) c)

-- ── the rows that a row refers to ──

-- those of a record from the i-th on
module _ (st : List ℕ) (o n : ℕ) where
  abbrev refs : List ℕ
  refs = u16s st (o + 6) 4 n

  cons : (i r : ℕ) → i < n → r ≡ u16 st (o + 6 + 4 * i) → drop i refs ≡ r ∷ drop (suc i) refs
  cons i r l e = drop-cons refs i 0 (rw (length-u16s st 4 (o + 6) n) l) ∙ ap (◌∷ drop (suc i) refs) (get_d_u16s st 4 (o + 6) n i 0 l ∙ sym e)

  pub first_apart : (i r : ℕ) → i < n → r ≡ u16 st (o + 6 + 4 * i) → leads st o r ≡ false → all_lead st o (drop i refs) ≡ false
  unfolding all_lead
  first_apart i r l e apart = ap (all_lead st o) (cons i r l e) ∙ rw apart

  pub first_leads : (i r : ℕ) → i < n → r ≡ u16 st (o + 6 + 4 * i) → leads st o r ≡ true → all_lead st o (drop i refs) ≡ all_lead st o (drop (i + 1) refs)
  unfolding all_lead
  first_leads i r l e led = ap (all_lead st o) (cons i r l e) ∙ rw led (ap (λ (m : ℕ). all_lead st o (drop m refs)) (sym (add-one i)))

  pub no_more : (i : ℕ) → i ≡ n → all_lead st o (drop i refs) ≡ true
  unfolding all_lead
  no_more i e = ap (all_lead st o) (ap (λ m. drop m refs) (e ∙ sym (length-u16s st 4 (o + 6) n)) ∙ drop-length refs)

-- a row of another kind than a run or a record
pub others-open : (st : List ℕ) (o : ℕ) → u16 st (o + 2) ≢ 3 → u16 st (o + 2) ≢ 4 → u16 st (o + 2) ≢ 5 → true ≡ opens st o (row_at st o)
unfolding opens row_at row_of by_kind
others-open st o h3 h4 h5 = go (kind_of (u16 st (o + 2))) h3 h4 h5
  where
    go : {k : ℕ} → Kind k → k ≢ 3 → k ≢ 4 → k ≢ 5 → true ≡ opens st o (row_of st o k)
    go number h3 h4 h5 = refl
    go variable h3 h4 h5 = refl
    go fixed h3 h4 h5 = absurd (h3 refl)
    go counted h3 h4 h5 = absurd (h4 refl)
    go group h3 h4 h5 = absurd (h5 refl)
    go choice h3 h4 h5 = refl
    go octets h3 h4 h5 = refl
    go open_octets h3 h4 h5 = refl
    go {k} (none n) h3 h4 h5 = sym (ap (opens st o) (by_kind_none _ _ _ _ _ _ _ _ _ k n))

-- ── the root ──

module _ (st : List ℕ) (o : ℕ) where
  pub unfit-out : fits st o ≡ false → false ≡ enters st o
  unfolding enters
  unfit-out h = rw h (sym (simp and-false))

  pub fit-enters : fits st o ≡ true → within 1 32 (held_depth st o) ≡ enters st o
  unfolding enters
  fit-enters h = rw h (sym (simp and-true))
