-- The tables by kind of the crate row say the same as its rows, and as the rules of Rules.antt.
-- Assumes nothing.
use Prim.Native.Nat.{ℕ, ◌+◌, ◌*◌}
use mathlib.Core.Bool.{true, ◌&&◌, false≢true}
use mathlib.Core.Path.{◌≡◌, refl, sym, ap, ◌∙◌}
use mathlib.Core.List.{List}
use Rattle.octets.specs.Numbers.{u16, u16s}
use Rattle.octets.proofs.Numbers.{length-u16s}
use Rattle.row.specs.Rows.{row_of, row_length, within}
use Rattle.rules.specs.Rules.{known_kind, numbers_in_bounds, flags_in_bounds, references}
use Rattle.row.specs.Kinds.{by_kind, length_of, least_count, most_count, count_of, reference_count, reference_step, may_reserve, flag_count}
use Rattle.rules.specs.Steps.{kept}
use Rattle.row.proofs.Bools.{and-true}
use Rattle.row.proofs.ByKind.{Kind, number, variable, fixed, counted, group, choice, octets, open_octets, none, kind_of, by_kind_none}

module _ (t : List ℕ) (o : ℕ) where
  -- the kind is known
  pub known_kind_lem : (k : ℕ) → known_kind (row_of t o k) ≡ within 1 8 k
  unfolding known_kind row_of within by_kind
  known_kind_lem k = go (kind_of k)
    where
      go : {k : ℕ} → Kind k → known_kind (row_of t o k) ≡ within 1 8 k
      go number = refl
      go variable = refl
      go fixed = refl
      go counted = refl
      go group = refl
      go choice = refl
      go octets = refl
      go open_octets = refl
      go {k} (none n) = ap known_kind (by_kind_none _ _ _ _ _ _ _ _ _ k n) ∙ sym n

  -- the length of its kind
  pub row-length : (k : ℕ) → within 1 8 k ≡ true → row_length (row_of t o k) ≡ length_of k (count_of t o k)
  unfolding row_length row_of by_kind length_of count_of within
  row-length k h = go (kind_of k) h
    where
      go : {k : ℕ} → Kind k → within 1 8 k ≡ true → row_length (row_of t o k) ≡ length_of k (count_of t o k)
      go number h = refl
      go variable h = refl
      go fixed h = refl
      go counted h = refl
      go group h = ap (λ n. 6 + 4 * n) (length-u16s t 4 (o + 6) (u16 t (o + 4)))
      go choice h = ap (λ n. 6 + 2 * n) (length-u16s t 2 (o + 6) (u16 t (o + 4)))
      go octets h = refl
      go open_octets h = refl
      go (none n) h = absurd (false≢true (sym n ∙ h))

  -- its count, and its flags
  pub row-numbers : (k : ℕ) → within 1 8 k ≡ true
      → numbers_in_bounds (row_of t o k) ≡ within (least_count k) (most_count k) (count_of t o k) && flags_in_bounds (u16s t (o + 8) 4 (flag_count k (count_of t o k)))
  unfolding numbers_in_bounds row_of by_kind least_count most_count count_of flag_count within flags_in_bounds u16s
  row-numbers k h = go (kind_of k) h
    where
      go : {k : ℕ} → Kind k → within 1 8 k ≡ true
          → numbers_in_bounds (row_of t o k) ≡ within (least_count k) (most_count k) (count_of t o k) && flags_in_bounds (u16s t (o + 8) 4 (flag_count k (count_of t o k)))
      go number h = refl
      go variable h = refl
      go fixed h = sym (and-true _)
      go counted h = sym (and-true _)
      go group h = ap (λ n. within 1 32 n && flags_in_bounds (u16s t (o + 8) 4 (u16 t (o + 4)))) (length-u16s t 4 (o + 6) (u16 t (o + 4)))
      go choice h = ap (within 2 128) (length-u16s t 2 (o + 6) (u16 t (o + 4))) ∙ sym (and-true _)
      go octets h = sym (and-true _)
      go open_octets h = sym (and-true _)
      go (none n) h = absurd (false≢true (sym n ∙ h))

  -- its references
  pub row-references : (k : ℕ) → within 1 8 k ≡ true
      → references (row_of t o k) ≡ kept (may_reserve k) (u16s t (o + 6) (reference_step k) (reference_count k (count_of t o k)))
  unfolding references row_of by_kind kept reference_step reference_count count_of within u16s
  row-references k h = go (kind_of k) h
    where
      go : {k : ℕ} → Kind k → within 1 8 k ≡ true
          → references (row_of t o k) ≡ kept (may_reserve k) (u16s t (o + 6) (reference_step k) (reference_count k (count_of t o k)))
      go number h = refl
      go variable h = refl
      go fixed h = refl
      go counted h = refl
      go group h = refl
      go choice h = refl
      go octets h = refl
      go open_octets h = refl
      go (none n) h = absurd (false≢true (sym n ∙ h))
