-- What a table that obeys the rules gives its readers, row by row: which row stands there, that it lies inside the table, and
-- that it refers to earlier rows.
-- Assumes nothing.
use Prim.Native.Nat.{ℕ, zero, suc, ◌+◌, ◌*◌, ◌≤◌, ◌<◌}
use mathlib.Core.Bool.{Bool, true, false, cond, false≢true, and-eq-true_iff}
use mathlib.Core.Path.{◌≡◌, sym, ◌∙◌, subst}
use mathlib.Core.Logic.{◌≢◌}
use mathlib.Core.List.{List, [], ◌∷◌, map}
use native.Mathlib.Omega.{arith}
use lib.ListN.{length, get_or}
use Rattle.octets.specs.Numbers.{u16, u32, signed, u16s, there}
use Rattle.octets.proofs.Numbers.{length-u16s, get_d_u16s}
use Rattle.row.specs.Rows.{Row, Number, Variable, FixedRun, CountedRun, Record, Choice, Octets, row_at, within}
use Rattle.row.specs.Kinds.{length_of, least_count, most_count, count_of, flag_count, is_octets, least_length}
use Rattle.row.specs.Fits.{Fits}
use Rattle.rules.specs.Rules.{Starts, All, Earlier, references, branches, flags_in_bounds, RowObeys, Obeys}
use Rattle.row.proofs.Fits.{number_fits, variable_fits, fixed_fits, counted_fits, record_fits, choice_fits, octets_fits, last_kind as Fits-last}
use Rattle.table.proofs.Decides.{apart, row-four}
use Rattle.rules.proofs.ByKind.{known_kind_lem, row-length, row-numbers}

-- a row referred to is the start of a row
pub earlier-starts : {t : List ℕ} {o r : ℕ} → Starts t o → Earlier t o r → Starts t r
earlier-starts s e = (e.0, omega (arith, s.1, e.1))

-- one of some references
pub all-at : (P : ℕ → Type 0) (rs : List ℕ) (i d : ℕ) → All P rs → i < length rs → P (get_or rs i d)
all-at P [] i d h l = absurd (omega arith)
all-at P (r ∷ rs) zero d h l = h.0
all-at P (r ∷ rs) (suc i) d h l = all-at P rs i d h.1 (omega arith)

-- a branch that is there
pub branch_at : (P : ℕ → Type 0) (rs : List ℕ) (i d : ℕ) → All P (branches rs) → get_or (map there rs) i false ≡ true → P (get_or rs i d)
unfolding branches
branch_at P [] i d h e = absurd (false≢true e)
branch_at P (r ∷ rs) zero d h e =
    let k : All P (r ∷ branches rs) = subst (λ (b : Bool). All P (cond b (r ∷ branches rs) (branches rs))) e h in
    k.0
branch_at P (r ∷ rs) (suc i) d h e = branch_at P rs i d (go (there r) h) e
  where
    go : (b : Bool) → All P (cond b (r ∷ branches rs) (branches rs)) → All P (branches rs)
    go true k = k.1
    go false k = k

module _ {t : List ℕ} {o : ℕ} (h : Obeys t) (s : Starts t o) where
  obeyed : RowObeys t o
  obeyed = h.rows o s

  -- it ends inside the table
  pub row_ends : o + u16 t o ≤ length t
  row_ends = apart s.0 h.filled (omega (arith, s.1)) (λ e. omega (arith, s.1))

  pub row-starts_inside : (o + 4 ≤ length t) × (length t ≤ 4096)
  row-starts_inside = (omega (arith, row_ends, row-four obeyed), h.most)

  refer : (r : Row) → row_at t o ≡ r → All (Earlier t o) (references r)
  refer r e = subst (λ (x : Row). All (Earlier t o) (references x)) e obeyed.references_earlier

  -- it can be read
  pub row_fits : Fits t o
  unfolding row_at
  row_fits =
      let kind = u16 t (o + 2) in
      let count = count_of t o kind in
      let k = sym (known_kind_lem t o kind) ∙ obeyed.kind_known in
      let l : u16 t o ≡ length_of kind count = obeyed.length_right ∙ row-length t o kind k in
      let n = (and-eq-true_iff (within (least_count kind) (most_count kind) count) (flags_in_bounds (u16s t (o + 8) 4 (flag_count kind count)))).0 (sym (row-numbers t o kind k) ∙ obeyed.numbers_right) in
      record { start = row-starts_inside.0; known = k; inside = omega (arith, row_ends); counted = n.0 }

  pub number-row : u16 t (o + 2) ≡ 1 → (row_at t o ≡ Number (signed (u32 t (o + 4))) (u32 t (o + 8))) × (o + 12 ≤ length t)
  number-row k = number_fits row_fits k

  pub variable-row : u16 t (o + 2) ≡ 2 → row_at t o ≡ Variable
  variable-row k = variable_fits row_fits k

  pub fixed-row : u16 t (o + 2) ≡ 3 → (row_at t o ≡ FixedRun (u16 t (o + 4)) (u16 t (o + 6))) × (o + 8 ≤ length t) × Earlier t o (u16 t (o + 6))
  unfolding references
  fixed-row k = let f = fixed_fits row_fits k in (f.0, f.1, (refer _ f.0).0)

  pub counted-row : u16 t (o + 2) ≡ 4 → (row_at t o ≡ CountedRun (u16 t (o + 4)) (u16 t (o + 6))) × (o + 8 ≤ length t) × Earlier t o (u16 t (o + 6))
  unfolding references
  counted-row k = let f = counted_fits row_fits k in (f.0, f.1, (refer _ f.0).0)

  pub record RecordRow : Type 0 where
    pub is : row_at t o ≡ Record (u16s t (o + 6) 4 (u16 t (o + 4))) (u16s t (o + 8) 4 (u16 t (o + 4)))
    pub inside : o + 6 + 4 * u16 t (o + 4) ≤ length t
    pub most : u16 t (o + 4) ≤ 32
    pub all : All (Earlier t o) (u16s t (o + 6) 4 (u16 t (o + 4)))
    pub field : (i : ℕ) → i < u16 t (o + 4) → Earlier t o (u16 t (o + 6 + 4 * i))

  pub record-row : u16 t (o + 2) ≡ 5 → RecordRow
  unfolding references
  record-row k =
      let m = u16 t (o + 4) in
      let rs = u16s t (o + 6) 4 m in
      let f = record_fits row_fits k in
      let l = length-u16s t 4 (o + 6) m in
      record {
        is = f.is;
        inside = f.inside;
        most = f.most;
        all = refer _ f.is;
        field = λ i h. rw (get_d_u16s t 4 (o + 6) m i 0 h) at (all-at (Earlier t o) rs i 0 (refer _ f.is) (omega arith));
      }

  pub record ChoiceRow : Type 0 where
    pub is : row_at t o ≡ Choice (u16s t (o + 6) 2 (u16 t (o + 4)))
    pub inside : o + 6 + 2 * u16 t (o + 4) ≤ length t
    pub least : 2 ≤ u16 t (o + 4)
    pub most : u16 t (o + 4) ≤ 128
    pub branch : (i : ℕ) → get_or (map there (u16s t (o + 6) 2 (u16 t (o + 4)))) i false ≡ true → Earlier t o (get_or (u16s t (o + 6) 2 (u16 t (o + 4))) i 65535)

  pub choice-row : u16 t (o + 2) ≡ 6 → ChoiceRow
  unfolding references
  choice-row k =
      let f = choice_fits row_fits k in
      record {
        is = f.is;
        inside = f.inside;
        least = f.least;
        most = f.most;
        branch = λ i t. branch_at (Earlier _ o) (u16s _ (o + 6) 2 (u16 _ (o + 4))) i 65535 (refer _ f.is) t;
      }

  pub octets-row : is_octets (u16 t (o + 2)) ≡ true → (row_at t o ≡ Octets (least_length (u16 t (o + 2))) (u16 t (o + 4))) × (o + 6 ≤ length t)
  octets-row k = octets_fits row_fits k

  -- a row of no other kind is octets
  pub last_kind : (u16 t (o + 2) ≢ 1) → (u16 t (o + 2) ≢ 2) → (u16 t (o + 2) ≢ 3) → (u16 t (o + 2) ≢ 4) → (u16 t (o + 2) ≢ 5) → (u16 t (o + 2) ≢ 6)
      → is_octets (u16 t (o + 2)) ≡ true
  last_kind = Fits-last row_fits
