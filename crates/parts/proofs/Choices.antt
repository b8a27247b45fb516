-- The branch that an allowed index chooses: one that is there, and an earlier row.
-- Assumes nothing.
use Prim.Native.Nat.{ℕ, zero, suc, ◌+◌, ◌*◌, ◌<◌}
use mathlib.Core.Bool.{Bool, true, false, cond, false≢true}
use mathlib.Core.Path.{◌≡◌, refl, sym, ap, ◌∙◌}
use mathlib.Core.List.{List, [], ◌∷◌, map}
use native.Mathlib.Omega.{arith}
use lib.IntN.{ℤ, pos, negsuc, +ℤ_idr}
use lib.ListN.{length, get_or}
use Rattle.octets.specs.Numbers.{u16, u16s, there}
use Rattle.octets.proofs.Numbers.{length-u16s, get_d_u16s}
use Rattle.item.specs.Code.{index, natural, of_natural, allows}
use Rattle.item.specs.Answers.{branches_at}
use Rattle.row.specs.Offsets.{earlier}
use Rattle.rules.specs.Rules.{branches, references, Obeys, Starts, Earlier}
use Rattle.row.proofs.Offsets.{earlier_is}
use Rattle.row.specs.Rows.{row_at}
use Rattle.row.specs.Fits.{Fits}
use Rattle.row.proofs.Fits.{choice_fits}
use Rattle.table.proofs.Obeyed.{all-at, row_fits}
use Rattle.items.specs.Items.{stop}
use Rattle.encoding.specs.Rows.{items}
use Rattle.parts.specs.Parts.{Refers}

length-map : (f : ℕ → Bool) (xs : List ℕ) → length (map f xs) ≡ length xs
length-map f [] = refl
length-map f (x ∷ xs) = ap suc (length-map f xs)

-- a branch whose index is allowed is there
index_there : (branches : List Bool) (v : ℤ) → allows (index branches) v ≡ true → get_or branches (natural v) false ≡ true
index_there branches v h = go v (rw (+ℤ_idr v) at h)
  where
    go : (v : ℤ) → of_natural (λ n. get_or branches n false) v ≡ true → get_or branches (natural v) false ≡ true
    go (pos n) h = h
    go (negsuc n) h = absurd (false≢true h)

there_lt : (branches : List Bool) (n : ℕ) → get_or branches n false ≡ true → n < length branches
there_lt [] n e = absurd (false≢true e)
there_lt (b ∷ branches) zero e = omega arith
there_lt (b ∷ branches) (suc n) e = omega (arith, there_lt branches n e)

-- a branch that is there is one of the references
branch-referred : (rs : List ℕ) (i : ℕ) → get_or (map there rs) i false ≡ true → (j : ℕ) × (j < length (branches rs)) × (get_or rs i 65535 ≡ get_or (branches rs) j 0)
unfolding branches
branch-referred [] i e = absurd (false≢true e)
branch-referred (r ∷ rs) zero e = rw e (0, omega arith, refl)
branch-referred (r ∷ rs) (suc i) e = go (there r) (branch-referred rs i e)
  where
    go : (b : Bool) → (j : ℕ) × (j < length (branches rs)) × (get_or rs i 65535 ≡ get_or (branches rs) j 0)
        → (j : ℕ) × (j < length (cond b (r ∷ branches rs) (branches rs))) × (get_or rs i 65535 ≡ get_or (cond b (r ∷ branches rs) (branches rs)) j 0)
    go true h = (suc h.0, omega (arith, h.1), h.2)
    go false h = h

-- and is there
branch_there_lem : (rs : List ℕ) (i : ℕ) → get_or (map there rs) i false ≡ true → there (get_or rs i 65535) ≡ true
branch_there_lem [] i e = absurd (false≢true e)
branch_there_lem (r ∷ rs) zero e = e
branch_there_lem (r ∷ rs) (suc i) e = branch_there_lem rs i e

-- branch i of the choice at o
pub record Picked (t : List ℕ) (o i : ℕ) : Type 0 where
  pub inside : o + 6 + 2 * i + 1 < length t
  pub referred : Refers t o (u16 t (o + 6 + 2 * i))
  pub is : there (u16 t (o + 6 + 2 * i)) ≡ true
  pub same : get_or (u16s t (o + 6) 2 (u16 t (o + 4))) i 65535 ≡ u16 t (o + 6 + 2 * i)

pub picked : {t : List ℕ} {o : ℕ} → Fits t o → u16 t (o + 2) ≡ 6
    → (v : ℤ) → allows (index (branches_at t (o + 6) (u16 t (o + 4)))) v ≡ true → Picked t o (natural v)
unfolding references
picked {t} {o} f k v allowed =
    let row = choice_fits f k in
    let m = u16 t (o + 4) in
    let rs = u16s t (o + 6) 2 m in
    let i = natural v in
    let is = index_there (map there rs) v allowed in
    let l : i < m = rw (length-map there rs, length-u16s t 2 (o + 6) m) at (there_lt (map there rs) i is) in
    let g : get_or rs i 65535 ≡ u16 t (o + 6 + 2 * i) = get_d_u16s t 2 (o + 6) m i 65535 l in
    let b = branch-referred rs i is in
    record {
      inside = omega (arith, row.inside);
      referred = rw row.is (b.0, b.1, sym g ∙ b.2);
      is = rw g at (branch_there_lem rs i is);
      same = g;
    }

-- a row referred to under the rules is an earlier one
pub refers-earlier : {t : List ℕ} {o r : ℕ} → Obeys t → Starts t o → Refers t o r → Earlier t o r
refers-earlier {t} {o} h s e = rw e.2 (all-at (Earlier t o) (references (row_at t o)) e.0 0 (h.rows o s).references_earlier e.1)

-- the branch of a choice of a table that obeys the rules
pub record Chosen (t : List ℕ) (o i : ℕ) : Type 0 where
  pub inside : o + 6 + 2 * i + 1 < length t
  pub back : Earlier t o (u16 t (o + 6 + 2 * i))
  pub same : earlier stop o (items t) (get_or (u16s t (o + 6) 2 (u16 t (o + 4))) i 65535) ≡ items t (u16 t (o + 6 + 2 * i))

pub chosen : {t : List ℕ} {o : ℕ} → Obeys t → Starts t o → u16 t (o + 2) ≡ 6
    → (v : ℤ) → allows (index (branches_at t (o + 6) (u16 t (o + 4)))) v ≡ true → Chosen t o (natural v)
chosen {t} {o} h s k v allowed =
    let p = picked (row_fits h s) k v allowed in
    let b = refers-earlier h s p.referred in
    record {
      inside = p.inside;
      back = b;
      same = ap (earlier stop o (items t)) p.same ∙ earlier_is stop o (items t) _ b.1;
    }
