-- What the rows of a loaded state ask for: for any octets, the equation by which a reader goes from row to row, and what its tests tell
-- of a row; for the state of a table that obeys the rules, what the table's rows ask for.
-- Assumes nothing.
use Prim.Native.Nat.{ℕ, zero, suc, ◌+◌, ◌*◌, ◌≤◌, ◌<◌}
use mathlib.Core.Bool.{Bool, true, false, cond, ◌&&◌, and-eq-true_iff, false≢true}
use mathlib.Core.Path.{◌≡◌, refl, sym, ap, ap₂, ◌∙◌, fun_ext}
use mathlib.Core.Logic.{◌≢◌}
use mathlib.Core.List.{List, [], ◌∷◌}
use native.Mathlib.Omega.{arith}
use lib.Dec.{leb, ltb, eqb}
use lib.ListN.{length}
use borrow.Author.Tests.{leb-true, le-leb, ltb-true, lt-ltb, ne_eqb, not-true}
use Rattle.octets.specs.Numbers.{u16, u32, signed, u16s, there}
use Rattle.row.specs.Offsets.{earlier}
use Rattle.row.specs.Rows.{Row, Number, Variable, FixedRun, CountedRun, Record, Choice, Octets, Unknown, row_of, row_at, within}
use Rattle.row.specs.Kinds.{by_kind, has_count, length_of, least_count, most_count, count_of, may_reserve}
use Rattle.row.specs.Fits.{Fits}
use Rattle.row.proofs.Bools.{and-false, within_inside, inside_within}
use Rattle.row.proofs.Offsets.{earlier_is, earlier-out, by_offset_is}
use Rattle.row.proofs.ByKind.{Kind, number, variable, fixed, counted, group, choice, octets, open_octets, none, kind_of, count_inside, least-length}
use Rattle.rules.specs.Rules.{Starts, All, Earlier, Obeys, references, deepest, depth}
use Rattle.rules.proofs.Depths.{depths}
use Rattle.table.proofs.Obeyed.{earlier-starts, row-starts_inside, row_fits}
use Rattle.items.specs.Items.{Items, stop}
use Rattle.encoding.specs.Rows.{row_items, items}
use Rattle.encoding.specs.Guarded.{fits_as, fits, held_depth, leads, all_lead, opens, enters, never, from, guarded, guarded_root, Bounded, HoldsTable, Sound}
use Rattle.encoding.proofs.References.{by_row, all_map}
use Rattle.encoding.proofs.RowItems.{items-row, row_items_same}

-- ── what the tests of a row tell ──

-- two tests
both : (a b : Bool) → a && b ≡ true → (a ≡ true) × (b ≡ true)
both a b = (and-eq-true_iff a b).0

module _ (st : List ℕ) (o : ℕ) (h : fits st o ≡ true) where
  fits_parts : (o + 4 ≤ 4096) × (within 1 8 (u16 st (o + 2)) ≡ true) × (o + length_of (u16 st (o + 2)) (count_of st o (u16 st (o + 2))) ≤ 4096)
      × (within (least_count (u16 st (o + 2))) (most_count (u16 st (o + 2))) (count_of st o (u16 st (o + 2))) ≡ true)
  unfolding fits_as
  fits_parts =
      let k = u16 st (o + 2) in
      let n = count_of st o k in
      let a = both (leb (o + 4) 4096) (within 1 8 k && (leb (o + length_of k n) 4096 && within (least_count k) (most_count k) n)) h in
      let b = both (within 1 8 k) (leb (o + length_of k n) 4096 && within (least_count k) (most_count k) n) a.1 in
      let c = both (leb (o + length_of k n) 4096) (within (least_count k) (most_count k) n) b.1 in
      (leb-true (o + 4) 4096 a.0, b.0, leb-true (o + length_of k n) 4096 c.0, c.1)

  pub fits_below : o + 4 ≤ 4096
  fits_below = fits_parts.0

-- a state is long enough for its rows, so that such a row can be read from it
pub fits_row : (st : List ℕ) (o : ℕ) → 4096 ≤ length st → fits st o ≡ true → Fits st o
fits_row st o n h =
    let p = fits_parts st o h in
    record { start = omega (arith, p.0); known = p.1; inside = omega (arith, p.2); counted = p.3 }

module _ (st : List ℕ) (o r : ℕ) (h : leads st o r ≡ true) where
  leads-parts : (r < o) × (0 < held_depth st r) × (held_depth st r < held_depth st o) × (fits st r ≡ true)
  unfolding leads
  leads-parts =
      let a = both (ltb r o) (ltb 0 (held_depth st r) && (ltb (held_depth st r) (held_depth st o) && fits st r)) h in
      let b = both (ltb 0 (held_depth st r)) (ltb (held_depth st r) (held_depth st o) && fits st r) a.1 in
      let c = both (ltb (held_depth st r) (held_depth st o)) (fits st r) b.1 in
      (ltb-true r o a.0, ltb-true 0 (held_depth st r) b.0, ltb-true (held_depth st r) (held_depth st o) c.0, c.1)

  pub leads-earlier : r < o
  leads-earlier = leads-parts.0

  pub leads_fits : fits st r ≡ true
  leads_fits = leads-parts.3

module _ (st : List ℕ) (o : ℕ) (h : enters st o ≡ true) where
  enters-parts : (within 1 32 (held_depth st o) ≡ true) × (fits st o ≡ true)
  unfolding enters
  enters-parts = both (within 1 32 (held_depth st o)) (fits st o) h

  enters-shallow : held_depth st o ≤ 32
  enters-shallow = (within_inside 1 32 (held_depth st o) enters-parts.0).1

  pub enters_fits : fits st o ≡ true
  enters_fits = enters-parts.1

-- ── one reference ──

-- a reference that is no reserved branch's
pub there_unreserved : (st : List ℕ) (o r : ℕ) → there r ≡ true → may_reserve (u16 st (o + 2)) && eqb r 65535 ≡ false
unfolding there
there_unreserved st o r h = rw (not-true (eqb r 65535) h) (and-false (may_reserve (u16 st (o + 2))))

-- and one of a row that is no choice
pub no_choice_unreserved : (st : List ℕ) (o r : ℕ) → u16 st (o + 2) ≢ 6 → may_reserve (u16 st (o + 2)) && eqb r 65535 ≡ false
no_choice_unreserved st o r h = rw (ne_eqb (u16 st (o + 2)) 6 h)

module _ (st : List ℕ) (o : ℕ) (g : ℕ → Items) (r : ℕ) (h : may_reserve (u16 st (o + 2)) && eqb r 65535 ≡ false) where
  pub from_at : from st o g r ≡ cond (leads st o r) (g r) never
  unfolding from
  from_at = rw h

  pub from_leads : leads st o r ≡ true → from st o g r ≡ g r
  from_leads l = from_at ∙ rw l

  pub from_stays : leads st o r ≡ false → from st o g r ≡ never
  from_stays l = from_at ∙ rw l

-- all of some
all_lead_lem : (st : List ℕ) (o : ℕ) (rs : List ℕ) → all_lead st o rs ≡ true → All (λ r. leads st o r ≡ true) rs
unfolding all_lead
all_lead_lem st o [] h = tt
all_lead_lem st o (r ∷ rs) h = let b = both (leads st o r) (all_lead st o rs) h in (b.0, all_lead_lem st o rs b.1)

lead_all : (st : List ℕ) (o : ℕ) (rs : List ℕ) → All (λ r. leads st o r ≡ true) rs → all_lead st o rs ≡ true
unfolding all_lead
lead_all st o [] h = refl
lead_all st o (r ∷ rs) h = rw h.0 (lead_all st o rs h.1)

-- ── every row, whatever the octets ──

-- no row is asked for that stands later
from_earlier : (st : List ℕ) (o : ℕ) (g : ℕ → Items) → from st o (earlier never o g) ≡ from st o g
unfolding from
from_earlier st o g = fun_ext (λ r. ap (cond (may_reserve (u16 st (o + 2)) && eqb r 65535) stop) (go r (leads st o r) refl))
  where
    go : (r : ℕ) (b : Bool) → leads st o r ≡ b → cond b (earlier never o g r) never ≡ cond b (g r) never
    go r true e = earlier_is never o g r (leads-earlier st o r e)
    go r false e = refl

-- the equation by which a reader goes from row to row
guarded_is_by : (st : List ℕ) (o : ℕ) → guarded st o ≡ cond (opens st o (row_at st o)) (row_items (from st o (guarded st)) (row_at st o)) never
unfolding guarded
guarded_is_by st o =
    by_offset_is never (λ o g. cond (opens st o (row_at st o)) (row_items (from st o g) (row_at st o)) never) o
    ∙ ap (λ (g : ℕ → Items). cond (opens st o (row_at st o)) (row_items g (row_at st o)) never) (from_earlier st o (guarded st))

pub guarded-row : (st : List ℕ) (o : ℕ) → opens st o (row_at st o) ≡ true → guarded st o ≡ row_items (from st o (guarded st)) (row_at st o)
guarded-row st o h = guarded_is_by st o ∙ rw h

-- a row that refers to one that can't be read
pub guarded_never : (st : List ℕ) (o : ℕ) → opens st o (row_at st o) ≡ false → guarded st o ≡ never
guarded_never st o h = guarded_is_by st o ∙ rw h

-- each row that a run or a record refers to, where all can be read
pub opens-each : (st : List ℕ) (o : ℕ) (row : Row) → ((rs : List ℕ) → row ≡ Choice rs → ⊥) → opens st o row ≡ true → All (λ r. leads st o r ≡ true) (references row)
unfolding opens references
opens-each st o (Number low span) n h = tt
opens-each st o Variable n h = tt
opens-each st o (FixedRun count r) n h = (h, tt)
opens-each st o (CountedRun most r) n h = (h, tt)
opens-each st o (Record rs fs) n h = all_lead_lem st o rs h
opens-each st o (Choice rs) n h = absurd (n rs refl)
opens-each st o (Octets least most) n h = tt
opens-each st o Unknown n h = tt

-- and back
pub each_opens : (st : List ℕ) (o : ℕ) (row : Row) → All (λ r. leads st o r ≡ true) (references row) → opens st o row ≡ true
unfolding opens references
each_opens st o (Number low span) h = refl
each_opens st o Variable h = refl
each_opens st o (FixedRun count r) h = h.0
each_opens st o (CountedRun most r) h = h.0
each_opens st o (Record rs fs) h = lead_all st o rs h
each_opens st o (Choice rs) h = refl
each_opens st o (Octets least most) h = refl
each_opens st o Unknown h = refl

-- ── a row of a table that obeys the rules ──

-- a choice is of kind 6 and no other
choice-kind : (t : List ℕ) (o : ℕ) {k : ℕ} → Kind k → (rs : List ℕ) → row_of t o k ≡ Choice rs → within 1 8 k ≡ true → k ≡ 6
unfolding row_of
choice-kind t o number rs e h = cc
choice-kind t o variable rs e h = cc
choice-kind t o fixed rs e h = cc
choice-kind t o counted rs e h = cc
choice-kind t o group rs e h = cc
choice-kind t o choice rs e h = refl
choice-kind t o octets rs e h = cc
choice-kind t o open_octets rs e h = cc
choice-kind t o (none n) rs e h = absurd (false≢true (sym n ∙ h))

pub choice-kind_of : (t : List ℕ) (o : ℕ) (rs : List ℕ) → row_at t o ≡ Choice rs → within 1 8 (u16 t (o + 2)) ≡ true → u16 t (o + 2) ≡ 6
unfolding row_at
choice-kind_of t o rs e h = choice-kind t o (kind_of (u16 t (o + 2))) rs e h

-- the references of a row, each with a bound of its depth
all_lower : (P : ℕ → Type 0) (d : ℕ → ℕ) (m : ℕ) (rs : List ℕ) → deepest d rs ≤ m → All P rs → All (λ r. P r × (d r ≤ m)) rs
all_lower P d m [] h a = tt
all_lower P d m (r ∷ rs) h a = ((a.0, omega arith), all_lower P d m rs (omega arith) a.1)

-- ── the state of such a table ──

module _ (st t : List ℕ) (h : Obeys t) (k : HoldsTable st t) where
  -- the numbers in its first 4,096 octets are the table's
  u16_same : (i : ℕ) → i + 2 ≤ 4096 → u16 st i ≡ u16 t i
  unfolding u16
  u16_same i l = rw (k.octets i (omega arith), k.octets (i + 1) (omega arith))

  u32_same : (i : ℕ) → i + 4 ≤ 4096 → u32 st i ≡ u32 t i
  unfolding u32
  u32_same i l = rw (u16_same i (omega arith), u16_same (i + 2) (omega arith))

  u16s_same : (step n i : ℕ) → ((j : ℕ) → j < n → i + step * j + 2 ≤ 4096) → u16s st i step n ≡ u16s t i step n
  unfolding u16s
  u16s_same step zero i l = refl
  u16s_same step (suc n) i l =
      ap₂ ◌∷◌ (u16_same i (omega (arith, l 0 (omega arith)))) (u16s_same step n (i + step) (λ j m. omega (arith, l (suc j) (omega arith))))

  module _ (o : ℕ) (s : Starts t o) where
    -- so a row of the table stands in the state too, and can be read there
    kind_same : u16 st (o + 2) ≡ u16 t (o + 2)
    kind_same = u16_same (o + 2) (omega (arith, (row-starts_inside h s).0, h.most))

    ends : o + length_of (u16 t (o + 2)) (count_of t o (u16 t (o + 2))) ≤ 4096
    ends = omega (arith, (row_fits h s).inside, h.most)

    count_same : count_of st o (u16 t (o + 2)) ≡ count_of t o (u16 t (o + 2))
    unfolding count_of
    count_same = go (has_count (u16 t (o + 2))) refl
      where
        go : (b : Bool) → has_count (u16 t (o + 2)) ≡ b → cond b (u16 st (o + 4)) 0 ≡ cond b (u16 t (o + 4)) 0
        go true e =
            let n = count_of t o (u16 t (o + 2)) in
            u16_same (o + 4) (omega (arith, ends, count_inside (u16 t (o + 2)) e, least-length (u16 t (o + 2)) n (row_fits h s).known))
        go false e = refl

    fits_same : fits st o ≡ true
    unfolding fits_as
    fits_same =
        let k = u16 t (o + 2) in
        let f = row_fits h s in
        rw (kind_same, count_same, le-leb (o + 4) 4096 (omega (arith, f.start, h.most)), f.known, le-leb (o + length_of k (count_of t o k)) 4096 ends, f.counted) refl

    row_same : row_at st o ≡ row_at t o
    unfolding row_at row_of length_of by_kind count_of within
    row_same = ap (row_of st o) kind_same ∙ go (kind_of (u16 t (o + 2))) (row_fits h s).known ends
      where
        go : {k : ℕ} → Kind k → within 1 8 k ≡ true → o + length_of k (count_of t o k) ≤ 4096 → row_of st o k ≡ row_of t o k
        go number e l = ap₂ Number (ap signed (u32_same (o + 4) (omega arith))) (u32_same (o + 8) (omega arith))
        go variable e l = refl
        go fixed e l = ap₂ FixedRun (u16_same (o + 4) (omega arith)) (u16_same (o + 6) (omega arith))
        go counted e l = ap₂ CountedRun (u16_same (o + 4) (omega arith)) (u16_same (o + 6) (omega arith))
        go group e l =
            let n = u16 t (o + 4) in
            rw (u16_same (o + 4) (omega arith)) (ap₂ Record (u16s_same 4 n (o + 6) (λ j m. omega arith)) (u16s_same 4 n (o + 8) (λ j m. omega arith)))
        go choice e l = rw (u16_same (o + 4) (omega arith)) (ap Choice (u16s_same 2 (u16 t (o + 4)) (o + 6) (λ j m. omega arith)))
        go octets e l = ap (Octets 0) (u16_same (o + 4) (omega arith))
        go open_octets e l = ap (Octets 1) (u16_same (o + 4) (omega arith))
        go (none n) e l = absurd (false≢true (sym n ∙ e))

  module _ (o : ℕ) (s : Starts t o) where
    -- a row that it refers to is read
    leads_on : (r : ℕ) → Earlier t o r → depth t r ≤ deepest (depth t) (references (row_at t o)) → leads st o r ≡ true
    unfolding leads
    leads_on r e d =
        let below = earlier-starts s e in
        let some : 0 < held_depth st r = omega (arith, k.depths r below, (depths t).row r (h.rows r below).references_earlier) in
        let lower : held_depth st r < held_depth st o = omega (arith, d, k.depths r below, k.depths o s, (depths t).row o (h.rows o s).references_earlier) in
        rw (lt-ltb r o e.1, lt-ltb 0 (held_depth st r) some, lt-ltb (held_depth st r) (held_depth st o) lower) (fits_same r below)

    reference_same : (r : ℕ) → Earlier t o r × (depth t r ≤ deepest (depth t) (references (row_at t o))) → guarded st r ≡ items t r
        → from st o (guarded st) r ≡ earlier stop o (items t) r
    unfolding there
    reference_same r e q =
        let apart : eqb r 65535 ≡ false = ne_eqb r 65535 (λ z. omega (arith, e.0.1, s.1, h.most)) in
        let there_r : there r ≡ true = rw apart in
        from_leads st o (guarded st) r (there_unreserved st o r there_r) (leads_on r e.0 e.1) ∙ q ∙ sym (earlier_is stop o (items t) r e.0.1)

    reserved_same : (rs : List ℕ) → row_at t o ≡ Choice rs → from st o (guarded st) 65535 ≡ earlier stop o (items t) 65535
    unfolding from
    reserved_same rs e =
        let six : u16 st (o + 2) ≡ 6 = kind_same o s ∙ choice-kind_of t o rs e (row_fits h s).known in
        rw six (sym (earlier-out stop o (items t) 65535 (omega (arith, s.1, h.most))))

  guarded_is : (o : ℕ) → Starts t o → guarded st o ≡ items t o
  guarded_is = by_row t (λ o. guarded st o ≡ items t o) (λ o s before.
      let rs = references (row_at t o) in
      let lower = all_lower (Earlier t o) (depth t) (deepest (depth t) rs) rs (omega arith) (h.rows o s).references_earlier in
      let opened : opens st o (row_at st o) ≡ true = rw (row_same o s) (each_opens st o (row_at t o) (all_map (λ r e. leads_on o s r e.0 e.1) rs lower)) in
      guarded-row st o opened
      ∙ ap (row_items (from st o (guarded st))) (row_same o s)
      ∙ row_items_same (from st o (guarded st)) (earlier stop o (items t)) (row_at t o)
      (all_map (λ r e. reference_same o s r e (before r e.0)) rs lower)
      (reserved_same o s)
      ∙ sym (items-row t o))

  root_is : (o : ℕ) → Starts t o → guarded_root st o ≡ items t o
  unfolding guarded_root enters
  root_is o s =
      let some : 1 ≤ held_depth st o = omega (arith, k.depths o s, (depths t).row o (h.rows o s).references_earlier) in
      rw (inside_within 1 32 (held_depth st o) some (omega (arith, k.depths o s, (h.rows o s).depth_within)), fits_same o s) (guarded_is o s)

pub bounded : Bounded
bounded = record { root = enters-shallow; falls = λ st o r h. let p = leads-parts st o r h in (p.0, p.1, p.2) }

pub sound : Sound
sound = record { sound = root_is }
