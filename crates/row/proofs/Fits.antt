-- What a row that can be read is, by its kind, and where it ends.
-- Assumes nothing.
use Prim.Native.Nat.{ℕ, ◌+◌, ◌*◌, ◌≤◌}
use mathlib.Core.Bool.{true, false≢true}
use mathlib.Core.Path.{◌≡◌, refl, sym, ◌∙◌}
use mathlib.Core.Logic.{◌≢◌}
use mathlib.Core.List.{List}
use native.Mathlib.Omega.{arith}
use lib.ListN.{length}
use Rattle.octets.specs.Numbers.{u16, u32, signed, u16s}
use Rattle.row.specs.Rows.{Number, Variable, FixedRun, CountedRun, Record, Choice, Octets, row_of, row_at, within}
use Rattle.row.specs.Kinds.{by_kind, length_of, least_count, most_count, count_of, is_octets, least_length}
use Rattle.row.specs.Fits.{Fits}
use Rattle.row.proofs.Bools.{within_inside, inside_within}
use Rattle.row.proofs.ByKind.{Kind, number, variable, fixed, counted, group, choice, octets, open_octets, none, kind_of}

module _ {t : List ℕ} {o : ℕ} (f : Fits t o) where
  -- its end, where its kind is known
  ends : (k : ℕ) → u16 t (o + 2) ≡ k → o + length_of k (count_of t o k) ≤ length t
  ends k e = rw e at f.inside

  -- its count
  counts : (k : ℕ) → u16 t (o + 2) ≡ k → (least_count k ≤ count_of t o k) × (count_of t o k ≤ most_count k)
  counts k e = within_inside (least_count k) (most_count k) (count_of t o k) (rw e at f.counted)

  pub number_fits : u16 t (o + 2) ≡ 1 → (row_at t o ≡ Number (signed (u32 t (o + 4))) (u32 t (o + 8))) × (o + 12 ≤ length t)
  unfolding row_at row_of length_of by_kind
  number_fits k = (rw k, ends 1 k)

  pub variable_fits : u16 t (o + 2) ≡ 2 → row_at t o ≡ Variable
  unfolding row_at row_of
  variable_fits k = rw k

  pub fixed_fits : u16 t (o + 2) ≡ 3 → (row_at t o ≡ FixedRun (u16 t (o + 4)) (u16 t (o + 6))) × (o + 8 ≤ length t)
  unfolding row_at row_of length_of by_kind
  fixed_fits k = (rw k, ends 3 k)

  pub counted_fits : u16 t (o + 2) ≡ 4 → (row_at t o ≡ CountedRun (u16 t (o + 4)) (u16 t (o + 6))) × (o + 8 ≤ length t)
  unfolding row_at row_of length_of by_kind
  counted_fits k = (rw k, ends 4 k)

  pub record RecordFits : Type 0 where
    pub is : row_at t o ≡ Record (u16s t (o + 6) 4 (u16 t (o + 4))) (u16s t (o + 8) 4 (u16 t (o + 4)))
    pub inside : o + 6 + 4 * u16 t (o + 4) ≤ length t
    pub most : u16 t (o + 4) ≤ 32

  pub record_fits : u16 t (o + 2) ≡ 5 → RecordFits
  unfolding row_at row_of length_of by_kind count_of within least_count most_count
  record_fits k = record { is = rw k; inside = omega (arith, ends 5 k); most = (counts 5 k).1 }

  pub record ChoiceFits : Type 0 where
    pub is : row_at t o ≡ Choice (u16s t (o + 6) 2 (u16 t (o + 4)))
    pub inside : o + 6 + 2 * u16 t (o + 4) ≤ length t
    pub least : 2 ≤ u16 t (o + 4)
    pub most : u16 t (o + 4) ≤ 128

  pub choice_fits : u16 t (o + 2) ≡ 6 → ChoiceFits
  unfolding row_at row_of length_of by_kind count_of within least_count most_count
  choice_fits k = record { is = rw k; inside = omega (arith, ends 6 k); least = (counts 6 k).0; most = (counts 6 k).1 }

  pub octets_fits : is_octets (u16 t (o + 2)) ≡ true → (row_at t o ≡ Octets (least_length (u16 t (o + 2))) (u16 t (o + 4))) × (o + 6 ≤ length t)
  unfolding row_at row_of least_length within length_of by_kind
  octets_fits k = (row (kind_of (u16 t (o + 2))) k, end (kind_of (u16 t (o + 2))) k f.inside)
    where
      row : {k : ℕ} → Kind k → is_octets k ≡ true → row_of t o k ≡ Octets (least_length k) (u16 t (o + 4))
      row number e = absurd (false≢true e)
      row variable e = absurd (false≢true e)
      row fixed e = absurd (false≢true e)
      row counted e = absurd (false≢true e)
      row group e = absurd (false≢true e)
      row choice e = absurd (false≢true e)
      row octets e = refl
      row open_octets e = refl
      row {k} (none n) e = let w = within_inside 7 8 k e in absurd (false≢true (sym n ∙ inside_within 1 8 k (omega arith) (omega arith)))

      end : {k : ℕ} → Kind k → is_octets k ≡ true → o + length_of k (count_of t o k) ≤ length t → o + 6 ≤ length t
      end number e h = absurd (false≢true e)
      end variable e h = absurd (false≢true e)
      end fixed e h = absurd (false≢true e)
      end counted e h = absurd (false≢true e)
      end group e h = absurd (false≢true e)
      end choice e h = absurd (false≢true e)
      end octets e h = h
      end open_octets e h = h
      end {k} (none n) e h = let w = within_inside 7 8 k e in absurd (false≢true (sym n ∙ inside_within 1 8 k (omega arith) (omega arith)))

  -- a row of no other kind is octets
  pub last_kind : (u16 t (o + 2) ≢ 1) → (u16 t (o + 2) ≢ 2) → (u16 t (o + 2) ≢ 3) → (u16 t (o + 2) ≢ 4) → (u16 t (o + 2) ≢ 5) → (u16 t (o + 2) ≢ 6)
      → is_octets (u16 t (o + 2)) ≡ true
  unfolding within
  last_kind = go (kind_of (u16 t (o + 2))) f.known
    where
      go : {k : ℕ} → Kind k → within 1 8 k ≡ true → (k ≢ 1) → (k ≢ 2) → (k ≢ 3) → (k ≢ 4) → (k ≢ 5) → (k ≢ 6) → is_octets k ≡ true
      go number h h1 h2 h3 h4 h5 h6 = absurd (h1 refl)
      go variable h h1 h2 h3 h4 h5 h6 = absurd (h2 refl)
      go fixed h h1 h2 h3 h4 h5 h6 = absurd (h3 refl)
      go counted h h1 h2 h3 h4 h5 h6 = absurd (h4 refl)
      go group h h1 h2 h3 h4 h5 h6 = absurd (h5 refl)
      go choice h h1 h2 h3 h4 h5 h6 = absurd (h6 refl)
      go octets h h1 h2 h3 h4 h5 h6 = refl
      go open_octets h h1 h2 h3 h4 h5 h6 = refl
      go (none n) h h1 h2 h3 h4 h5 h6 = absurd (false≢true (sym n ∙ h))
