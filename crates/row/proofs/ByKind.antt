-- The tables of Kinds.antt, kind by kind.
-- Assumes nothing.
use Prim.Native.Nat.{ℕ, zero, suc, ◌+◌, ◌*◌, ◌≤◌, ◌<◌}
use mathlib.Core.Bool.{Bool, true, false, cond, ◌&&◌, false≢true, and-eq-true_iff}
use mathlib.Core.Path.{◌≡◌, refl, sym, ◌∙◌}
use native.Mathlib.Omega.{arith}
use native.Mathlib.Decide.{ℕ_discrete}
use lib.Dec.{leb, eqb}
use borrow.Author.Tests.{ne_eqb, leb-true}
use Rattle.row.specs.Rows.{within}
use Rattle.row.specs.Kinds.{by_kind, length_of, has_count, reference_count, reference_step, flag_count}
use Rattle.row.proofs.Bools.{within_inside, inside_within, below_within, above_within}

-- a number is one of the eight kinds, or none
pub data Kind : ℕ → Type 0 where
  number : Kind 1
  variable : Kind 2
  fixed : Kind 3
  counted : Kind 4
  group : Kind 5
  choice : Kind 6
  octets : Kind 7
  open_octets : Kind 8
  none : {k : ℕ} → within 1 8 k ≡ false → Kind k

pub kind_of : (k : ℕ) → Kind k
kind_of zero = none (below_within 1 8 0 (omega arith))
kind_of (suc zero) = number
kind_of (suc (suc zero)) = variable
kind_of (suc (suc (suc zero))) = fixed
kind_of (suc (suc (suc (suc zero)))) = counted
kind_of (suc (suc (suc (suc (suc zero))))) = group
kind_of (suc (suc (suc (suc (suc (suc zero)))))) = choice
kind_of (suc (suc (suc (suc (suc (suc (suc zero))))))) = octets
kind_of (suc (suc (suc (suc (suc (suc (suc (suc zero)))))))) = open_octets
kind_of (suc (suc (suc (suc (suc (suc (suc (suc (suc k))))))))) = none (above_within 1 8 (suc (suc (suc (suc (suc (suc (suc (suc (suc k))))))))) (omega arith))

-- what is no kind has the last column
pub by_kind_none : {A : Type 0} (a b c d e f g h i : A) (k : ℕ) → within 1 8 k ≡ false → by_kind a b c d e f g h i k ≡ i
unfolding by_kind
by_kind_none a b c d e f g h i k n =
    simp (ne_eqb k 1 (apart 1 refl), ne_eqb k 2 (apart 2 refl), ne_eqb k 3 (apart 3 refl), ne_eqb k 4 (apart 4 refl), ne_eqb k 5 (apart 5 refl), ne_eqb k 6 (apart 6 refl), ne_eqb k 7 (apart 7 refl), ne_eqb k 8 (apart 8 refl))
  where
    apart : (i : ℕ) → leb 1 i && leb i 8 ≡ true → k ≡ i → ⊥
    apart i t e =
        let b = (and-eq-true_iff (leb 1 i) (leb i 8)).0 t in
        let l = leb-true 1 i b.0 in
        let m = leb-true i 8 b.1 in
        false≢true (sym n ∙ inside_within 1 8 k (omega arith) (omega arith))

-- a kind with a count has room for it
pub count_inside : (k : ℕ) → has_count k ≡ true → 6 ≤ length_of k 0
unfolding by_kind length_of within
count_inside k h = go (kind_of k) h
  where
    go : {k : ℕ} → Kind k → within 3 8 k ≡ true → 6 ≤ length_of k 0
    go number e = absurd (false≢true e)
    go variable e = absurd (false≢true e)
    go fixed e = omega arith
    go counted e = omega arith
    go group e = omega arith
    go choice e = omega arith
    go octets e = omega arith
    go open_octets e = omega arith
    go {k} (none n) e = let w = within_inside 3 8 k e in absurd (false≢true (sym n ∙ inside_within 1 8 k (omega arith) (omega arith)))

-- a row is at least as long as one of its kind with no fields or branches
pub least-length : (k m : ℕ) → within 1 8 k ≡ true → length_of k 0 ≤ length_of k m
unfolding by_kind length_of within
least-length k m h = go (kind_of k) h
  where
    go : {k : ℕ} → Kind k → within 1 8 k ≡ true → length_of k 0 ≤ length_of k m
    go number h = omega arith
    go variable h = omega arith
    go fixed h = omega arith
    go counted h = omega arith
    go group h = omega arith
    go choice h = omega arith
    go octets h = omega arith
    go open_octets h = omega arith
    go (none n) h = absurd (false≢true (sym n ∙ h))

-- the references fill the rest of a row that has any
pub length-references : (k m : ℕ) → 0 < reference_count k m → length_of k m ≡ 6 + reference_step k * reference_count k m
unfolding by_kind length_of reference_count reference_step within
length-references k m h = go (kind_of k) h
  where
    go : {k : ℕ} → Kind k → 0 < reference_count k m → length_of k m ≡ 6 + reference_step k * reference_count k m
    go number h = absurd (omega arith)
    go variable h = absurd (omega arith)
    go fixed h = refl
    go counted h = refl
    go group h = refl
    go choice h = refl
    go octets h = absurd (omega arith)
    go open_octets h = absurd (omega arith)
    go {k} (none n) h = absurd (omega (arith, by_kind_none 0 0 1 1 m m 0 0 0 k n))

-- and so do the flags with them
pub length-flags : (k m : ℕ) → 0 < flag_count k m → length_of k m ≡ 6 + 4 * flag_count k m
unfolding by_kind length_of flag_count
length-flags k m h = go (ℕ_discrete k 5)
  where
    go : Dec (k ≡ 5) → length_of k m ≡ 6 + 4 * flag_count k m
    go (yes e) = rw e
    go (no n) = absurd (let z : flag_count k m ≡ 0 = rw (ne_eqb k 5 n) in omega arith)

pub two-apart : (k : ℕ) → 2 ≤ reference_step k
unfolding reference_step
two-apart k = go (eqb k 5)
  where
    go : (b : Bool) → 2 ≤ cond b 4 2
    go true = omega arith
    go false = omega arith
