-- The one pass of Verdict.antt decides the rules (Obeys) and finds the fault (Fault): it passes a table exactly when the table obeys
-- them, and else tells the first row that breaks one and its first part that does.
-- Assumes nothing.
use Prim.Native.Nat.{ℕ, zero, suc, ◌+◌, ◌≤◌, ◌<◌, max}
use mathlib.Core.Bool.{Bool, true, false, cond, not, ◌&&◌, false≢true, and-eq-true_iff}
use mathlib.Core.Path.{◌≡◌, refl, sym, ap, ap₂, ◌∙◌, subst}
use mathlib.Core.Logic.{◌↔◌, ◌≢◌}
use mathlib.Core.List.{List, [], ◌∷◌}
use native.Mathlib.Omega.{arith}
use native.Mathlib.Decide.{ℕ_discrete}
use lib.Dec.{leb, eqb}
use lib.ListN.{length, set, replicate, length-set, length-replicate}
use lib.Seq.{get_or-set_same, get_or-set_other}
use borrow.Author.Tests.{leb-true, leb-false, eqb-true, le-leb, eq-eqb, ne_eqb}
use Rattle.item.proofs.CodeLaws.{and-inv}
use Rattle.answer.specs.Numbers.{refusal_at}
use Rattle.octets.specs.Numbers.{u16}
use Rattle.row.specs.Offsets.{earlier}
use Rattle.row.specs.Rows.{Row, Number, Variable, FixedRun, CountedRun, Record, Choice, Octets, Unknown, row_at, row_length}
use Rattle.rules.specs.Rules.{Reach, here, on, Starts, known_kind, numbers_in_bounds, references, has_branch, deepest, depth, All, Earlier, Part, its_end, its_kind, its_length, its_numbers, its_references, its_branch, its_depth, part_number, Keeps, RowObeys, Obeys}
use Rattle.rules.specs.Tests.{depth_in, all_passed, row_depth, RowVerdict, sound, faulty, demand, row_verdict}
use Rattle.table.specs.Faults.{FirstBroken, Fault, too_small, too_large, in_row}
use Rattle.table.specs.Verdict.{Verdict, passed, broken, on_sound, scan, verdict}
use Rattle.row.proofs.Offsets.{earlier_is}
use Rattle.rules.proofs.Depths.{depth-row}

-- ── parts ──

-- the part of a number, which is its own
part_of : ℕ → Part
part_of n = cond (eqb n 20) its_end (cond (eqb n 21) its_kind (cond (eqb n 22) its_length (cond (eqb n 23) its_numbers (cond (eqb n 24) its_references (cond (eqb n 25) its_branch its_depth)))))

part_back : (q : Part) → part_of (part_number q) ≡ q
unfolding part_of
part_back its_end = refl
part_back its_kind = refl
part_back its_length = refl
part_back its_numbers = refl
part_back its_references = refl
part_back its_branch = refl
part_back its_depth = refl

part_same : (p q : Part) → part_number p ≡ part_number q → p ≡ q
part_same p q e = sym (part_back p) ∙ ap part_of e ∙ part_back q

part_within : (q : Part) → (20 ≤ part_number q) × (part_number q ≤ 26)
part_within its_end = (omega arith, omega arith)
part_within its_kind = (omega arith, omega arith)
part_within its_length = (omega arith, omega arith)
part_within its_numbers = (omega arith, omega arith)
part_within its_references = (omega arith, omega arith)
part_within its_branch = (omega arith, omega arith)
part_within its_depth = (omega arith, omega arith)

-- ── the scan decides the rules ──

and-true : (a b : Bool) → a ≡ true → b ≡ true → a && b ≡ true
and-true a b p q = (and-eq-true_iff a b).1 (p, q)

pub reach_le : {t : List ℕ} {o p : ℕ} → Reach t o p → o ≤ p
reach_le here = omega arith
reach_le (on l r) = omega (arith, reach_le r)

pub reach_on : {t : List ℕ} {o p : ℕ} → Reach t o p → p < length t → Reach t o (p + u16 t p)
reach_on here h = on h here
reach_on (on l r) h = on l (reach_on r h)

-- no row starts inside another
pub apart : {t : List ℕ} {o p : ℕ} → Reach t o p → {q : ℕ} → Reach t o q → p ≤ q → p ≢ q → p + u16 t p ≤ q
apart here here h n = absurd (n refl)
apart here (on l r) h n = reach_le r
apart (on l r) here h n = absurd (n (omega (arith, reach_le r)))
apart (on l r) (on l' r') h n = apart r r' h n

depth_pos : (t : List ℕ) (o : ℕ) → depth t o ≢ 0
depth_pos t o h = omega (arith, depth-row t o)

-- d after the rows before o
pub record Passed (t : List ℕ) (o : ℕ) (d : List ℕ) : Type 0 where
  pub sized : length d ≡ 4096
  pub known : (r : ℕ) → Reach t 0 r → r < o → depth_in d r ≡ depth t r
  pub only : (r : ℕ) → depth_in d r ≢ 0 → Earlier t o r

not_eqb : (n : ℕ) → not (eqb n 0) ≡ true → n ≢ 0
not_eqb n h e = false≢true (rw (eq-eqb n 0 e) at h)

eqb_not : (n : ℕ) → n ≢ 0 → not (eqb n 0) ≡ true
eqb_not n h = rw (ne_eqb n 0 h)

module _ {t : List ℕ} {o : ℕ} {d : List ℕ} (i : Passed t o d) where
  known_earlier : (r : ℕ) → Earlier t o r → depth_in d r ≡ earlier 0 o (depth t) r
  known_earlier r b = i.known r b.0 b.1 ∙ sym (earlier_is 0 o (depth t) r b.1)

  all_same : (rs : List ℕ) → All (Earlier t o) rs → deepest (depth_in d) rs ≡ deepest (earlier 0 o (depth t)) rs
  all_same [] h = refl
  all_same (r ∷ rs) h = ap₂ max (known_earlier r h.0) (all_same rs h.1)

  all_sound : (rs : List ℕ) → all_passed d rs ≡ true → All (Earlier t o) rs
  all_sound [] h = tt
  all_sound (r ∷ rs) h =
      let x = and-inv (not (eqb (depth_in d r) 0)) (all_passed d rs) h in
      (i.only r (not_eqb (depth_in d r) x.0), all_sound rs x.1)

  all_complete : (rs : List ℕ) → All (Earlier t o) rs → all_passed d rs ≡ true
  all_complete [] h = refl
  all_complete (r ∷ rs) h =
      and-true _ _ (eqb_not (depth_in d r) (λ e. depth_pos t r (sym (i.known r h.0.0 h.0.1) ∙ e))) (all_complete rs h.1)

  pub row-depth : All (Earlier t o) (references (row_at t o)) → row_depth t o d ≡ depth t o
  unfolding row_depth
  row-depth h = ap suc (all_same (references (row_at t o)) h) ∙ sym (depth-row t o)

  -- ── each test holds exactly where its part keeps the rule ──

  ends-keeps : leb (o + 4) (length t) && leb (o + u16 t o) (length t) ≡ true → Keeps t o its_end
  ends-keeps h = let x = and-inv (leb (o + 4) (length t)) _ h in (leb-true (o + 4) (length t) x.0, leb-true (o + u16 t o) (length t) x.1)

  ends-test : Keeps t o its_end → leb (o + 4) (length t) && leb (o + u16 t o) (length t) ≡ true
  ends-test h = and-true _ _ (le-leb (o + 4) (length t) h.0) (le-leb (o + u16 t o) (length t) h.1)

  deep-keeps : Keeps t o its_references → leb (row_depth t o d) 32 ≡ true → Keeps t o its_depth
  deep-keeps s h = omega (arith, row-depth s, leb-true (row_depth t o d) 32 h)

  deep-test : Keeps t o its_references → Keeps t o its_depth → leb (row_depth t o d) 32 ≡ true
  deep-test s h = le-leb (row_depth t o d) 32 (omega (arith, row-depth s))

  -- what a verdict says of the parts from a number on
  abbrev From : ℕ → RowVerdict → Type 0
  From n sound = (q : Part) → n ≤ part_number q → Keeps t o q
  From n (faulty part) = ((q : Part) → n ≤ part_number q → part_number q < part_number part → Keeps t o q) × (Keeps t o part → ⊥)

  -- one part, and those after it
  one_more : (part q : Part) → Keeps t o part → part_number part ≤ part_number q → (suc (part_number part) ≤ part_number q → Keeps t o q) → Keeps t o q
  one_more part q h l k = go (ℕ_discrete (part_number part) (part_number q))
    where
      go : Dec (part_number part ≡ part_number q) → Keeps t o q
      go (yes e) = subst (λ (q : Part). Keeps t o q) (part_same part q e) h
      go (no n) = k (omega arith)

  kept_on : (part : Part) (v : RowVerdict) → Keeps t o part → From (suc (part_number part)) v → From (part_number part) v
  kept_on part sound h f = λ q l. one_more part q h l (f q)
  kept_on part (faulty r) h f = (λ q l m. one_more part q h l (λ k. f.0 q k m), f.1)

  step : (b : Bool) (part : Part) (v : RowVerdict) → (b ≡ true → Keeps t o part) → (Keeps t o part → b ≡ true)
      → (Keeps t o part → From (suc (part_number part)) v) → From (part_number part) (demand b part v)
  step true part v s c k = kept_on part v (s refl) (k (s refl))
  step false part v s c k = (λ q l m. absurd (omega arith), λ h. false≢true (c h))

  row_from : From 20 (row_verdict t o d)
  unfolding row_verdict
  row_from =
      let r = row_at t o in
      let deep = demand (leb (row_depth t o d) 32) its_depth sound in
      let branched = demand (has_branch r) its_branch deep in
      let referring = demand (all_passed d (references r)) its_references branched in
      let numbered = demand (numbers_in_bounds r) its_numbers referring in
      let long = demand (eqb (u16 t o) (row_length r)) its_length numbered in
      let known = demand (known_kind r) its_kind long in
      step _ its_end known ends-keeps ends-test (λ _.
      step _ its_kind long (λ h. h) (λ h. h) (λ _.
      step _ its_length numbered (eqb-true _ _) (eq-eqb _ _) (λ _.
      step _ its_numbers referring (λ h. h) (λ h. h) (λ _.
      step _ its_references branched (all_sound (references r)) (all_complete (references r)) (λ s.
      step _ its_branch deep (λ h. h) (λ h. h) (λ _.
      step _ its_depth sound (deep-keeps s) (deep-test s) (λ _ q l. absurd (omega (arith, (part_within q).1)))))))))

  -- a row that passes keeps the rule for every part
  pub row-sound : row_verdict t o d ≡ sound → (q : Part) → Keeps t o q
  row-sound e q = subst (λ (v : RowVerdict). From 20 v) e row_from q (part_within q).0

  -- and one that doesn't breaks that for a part, and keeps those before it
  pub row-faulty : (part : Part) → row_verdict t o d ≡ faulty part → ((q : Part) → part_number q < part_number part → Keeps t o q) × (Keeps t o part → ⊥)
  row-faulty part e =
      let f = subst (λ (v : RowVerdict). From 20 v) e row_from in
      (λ q. f.0 q (part_within q).0, f.1)

  before : Reach t 0 o → (p : ℕ) → Reach t 0 p → p < o + u16 t o → p ≢ o → p < o
  before r p q l n = go (leb o p) refl
    where
      go : (b : Bool) → leb o p ≡ b → p < o
      go true e = omega (arith, apart r q (leb-true o p e) (λ z. n (sym z)))
      go false e = leb-false o p e

  module _ (r : Reach t 0 o) (l : o < 4096) (u : 0 < u16 t o) (h : RowObeys t o) where
    known_on : (p : ℕ) → Reach t 0 p → p < o + u16 t o → depth_in (set d o (row_depth t o d)) p ≡ depth t p
    known_on p q m = go (ℕ_discrete p o)
      where
        go : Dec (p ≡ o) → depth_in (set d o (row_depth t o d)) p ≡ depth t p
        go (yes e) = rw e (get_or-set_same d o (row_depth t o d) 0 (omega (arith, i.sized)) ∙ row-depth h.references_earlier)
        go (no n) = get_or-set_other d o p (row_depth t o d) 0 n ∙ i.known p q (before r p q m n)

    only_on : (p : ℕ) → depth_in (set d o (row_depth t o d)) p ≢ 0 → Earlier t (o + u16 t o) p
    only_on p z = go (ℕ_discrete p o)
      where
        go : Dec (p ≡ o) → Earlier t (o + u16 t o) p
        go (yes e) = rw e (r, omega arith)
        go (no n) = let b = i.only p (λ e. z (get_or-set_other d o p (row_depth t o d) 0 n ∙ e)) in (b.0, omega (arith, b.1))

    passed_on : Passed t (o + u16 t o) (set d o (row_depth t o d))
    passed_on = record { sized = length-set d o (row_depth t o d) ∙ i.sized; known = known_on; only = only_on }

length-four : (r : Row) → known_kind r ≡ true → 4 ≤ row_length r
unfolding known_kind row_length
length-four (Number low span) h = omega arith
length-four Variable h = omega arith
length-four (FixedRun count r) h = omega arith
length-four (CountedRun most r) h = omega arith
length-four (Record rs fs) h = omega arith
length-four (Choice rs) h = omega arith
length-four (Octets least most) h = omega arith
length-four Unknown h = absurd (false≢true h)

-- a row has at least four octets
pub row-four : {t : List ℕ} {o : ℕ} → RowObeys t o → 4 ≤ u16 t o
row-four {t} {o} h = omega (arith, h.length_right, length-four (row_at t o) h.kind_known)

-- a row that keeps the rule for every part
pub all_obeys : {t : List ℕ} {o : ℕ} → ((q : Part) → Keeps t o q) → RowObeys t o
all_obeys k = record {
  kind_known = k its_kind;
  length_right = k its_length;
  numbers_right = k its_numbers;
  references_earlier = k its_references;
  branch_there = k its_branch;
  depth_within = k its_depth;
}

record Scanned (t : List ℕ) (o : ℕ) : Type 0 where
  filled : Reach t o (length t)
  rows : (p : ℕ) → Reach t o p → p < length t → RowObeys t p

rows_on : {t : List ℕ} {o p : ℕ} → Reach t o p → RowObeys t o → ((p : ℕ) → Reach t (o + u16 t o) p → p < length t → RowObeys t p) → p < length t → RowObeys t p
rows_on here w f h = w
rows_on (on l r) w f h = f _ r h

scanned_on : {t : List ℕ} {o : ℕ} → Scanned t (o + u16 t o) → o < length t → RowObeys t o → Scanned t o
scanned_on s l w = record { filled = on l s.filled; rows = λ p q h. rows_on q w s.rows h }

scanned_end : (t : List ℕ) → Scanned t (length t)
scanned_end t = record { filled = here; rows = λ p q h. absurd (omega (arith, reach_le q)) }

-- what is ahead of o
pub ahead : {t : List ℕ} {o p : ℕ} → Reach t o p → o < p → (o < length t) × Reach t (o + u16 t o) p
ahead here h = absurd (omega arith)
ahead (on l r) h = (l, r)

module _ (t : List ℕ) where
  -- the rows before o keep the rules
  abbrev So-far : ℕ → Type 0
  So-far o = (p : ℕ) → Starts t p → p < o → (q : Part) → Keeps t p q

  so_far_on : (o : ℕ) (d : List ℕ) → Passed t o d → Reach t 0 o → So-far o → ((q : Part) → Keeps t o q) → So-far (o + u16 t o)
  so_far_on o d i r so k p s l = go (ℕ_discrete p o)
    where
      go : Dec (p ≡ o) → (q : Part) → Keeps t p q
      go (yes e) = rw e k
      go (no n) = so p s (before i r p s.0 l n)

  -- what the scan from o on finds: that all rows obey, or the first that doesn't
  abbrev Found : ℕ → Verdict → Type 0
  Found o passed = Scanned t o
  Found o (broken r) = (p : ℕ) × (part : Part) × FirstBroken t p part × (r ≡ refusal_at (part_number part) p)

  found_on : (o : ℕ) (v : Verdict) → o < length t → RowObeys t o → Found (o + u16 t o) v → Found o v
  found_on o passed l w s = scanned_on s l w
  found_on o (broken r) l w x = x

  -- where all is well up to o
  pub record Ready (o : ℕ) (d : List ℕ) : Type 0 where
    pub depths : Passed t o d
    pub reached : Reach t 0 o
    pub inside : o ≤ length t
    pub rows : So-far o

  pub ready_on : length t ≤ 4096 → (o : ℕ) (d : List ℕ) → Ready o d → o < length t → ((q : Part) → Keeps t o q) → Ready (o + u16 t o) (set d o (row_depth t o d))
  ready_on small o d y l k =
      let w = all_obeys k in
      let u = row-four w in
      record {
        depths = passed_on y.depths y.reached (omega arith) (omega arith) w;
        reached = reach_on y.reached l;
        inside = (k its_end).1;
        rows = so_far_on o d y.depths y.reached y.rows k;
      }

  -- the verdict on the rows after the one at o
  abbrev later : ℕ → ℕ → List ℕ → Verdict
  later f o d = scan f t (o + u16 t o) (set d o (row_depth t o d))

  scan-finds : length t ≤ 4096 → (f o : ℕ) (d : List ℕ) → Ready o d → length t < o + f → Found o (scan f t o d)
  scan-finds small zero o d y h = absurd (omega (arith, y.inside))
  scan-finds small (suc f) o d y h = go (ℕ_discrete o (length t)) (scan-finds small f (o + u16 t o) (set d o (row_depth t o d)))
    where
      tested : o < length t → (v : RowVerdict) → row_verdict t o d ≡ v
          → (Ready (o + u16 t o) (set d o (row_depth t o d)) → length t < o + u16 t o + f → Found (o + u16 t o) (later f o d))
          → Found o (on_sound v o (later f o d))
      tested l (faulty part) e ih =
          let x = row-faulty y.depths part e in
          (o, part, record { starts = (y.reached, l); rows_before = y.rows; parts_before = x.0; breaks = x.1 }, refl)
      tested l sound e ih =
          let k = row-sound y.depths e in
          let w = all_obeys k in
          let u = row-four w in
          found_on o (later f o d) l w (ih (ready_on small o d y l k) (omega arith))

      go : Dec (o ≡ length t)
          → (Ready (o + u16 t o) (set d o (row_depth t o d)) → length t < o + u16 t o + f → Found (o + u16 t o) (later f o d))
          → Found o (scan (suc f) t o d)
      go (yes e) ih = rw (eq-eqb o (length t) e) (subst (λ (x : ℕ). Scanned t x) (sym e) (scanned_end t))
      go (no n) ih = rw (ne_eqb o (length t) n) (tested (omega (arith, y.inside)) (row_verdict t o d) refl ih)

get_d_zeros : (n r : ℕ) → depth_in (replicate n 0) r ≡ 0
get_d_zeros zero r = refl
get_d_zeros (suc n) zero = refl
get_d_zeros (suc n) (suc r) = get_d_zeros n r

-- before the first row
pub start : (t : List ℕ) (n : ℕ) → n ≡ 4096 → Ready t 0 (replicate n 0)
start t n e = record {
  depths = record { sized = length-replicate n 0 ∙ e; known = λ r q h. absurd (omega arith); only = λ r h. absurd (h (get_d_zeros n r)) };
  reached = here;
  inside = omega arith;
  rows = λ p s l. absurd (omega arith);
}

-- ── the verdict ──

-- what a verdict says of a table
abbrev Says : List ℕ → Verdict → Type 0
Says t passed = Obeys t
Says t (broken r) = Fault t r.number r.place

says : (t : List ℕ) → Says t (verdict t)
unfolding verdict
says t = go (leb 4 (length t)) refl (leb (length t) 4096) refl
  where
    found : (least : 4 ≤ length t) (most : length t ≤ 4096) (v : Verdict) → Found t 0 v → Says t v
    found least most passed s = record { least = least; most = most; filled = s.filled; rows = λ o p. s.rows o p.0 p.1 }
    found least most (broken r) x = rw x.3 (in_row least most x.2)

    go : (a : Bool) → leb 4 (length t) ≡ a → (b : Bool) → leb (length t) 4096 ≡ b
        → Says t (cond (a && b) (scan (suc (length t)) t 0 (replicate 4096 0)) (broken (refusal_at 1 0)))
    go false ea b eb = too_small (leb-false 4 (length t) ea)
    go true ea false eb = too_large (leb-false (length t) 4096 eb)
    go true ea true eb =
        let most = leb-true (length t) 4096 eb in
        found (leb-true 4 (length t) ea) most (scan (suc (length t)) t 0 (replicate 4096 0))
        (scan-finds t most (suc (length t)) 0 (replicate 4096 0) (start t 4096 refl) (omega arith))

-- ── one fault, or none ──

-- every row of a table that obeys the rules keeps the rule for every part
pub keeps_all : (t : List ℕ) (o : ℕ) → Obeys t → Starts t o → (q : Part) → Keeps t o q
keeps_all t o h s = go
  where
    w : RowObeys t o
    w = h.rows o s

    inside : o + u16 t o ≤ length t
    inside = apart s.0 h.filled (omega (arith, s.1)) (λ e. omega (arith, s.1))

    go : (q : Part) → Keeps t o q
    go its_end = (omega (arith, row-four w, inside), inside)
    go its_kind = w.kind_known
    go its_length = w.length_right
    go its_numbers = w.numbers_right
    go its_references = w.references_earlier
    go its_branch = w.branch_there
    go its_depth = w.depth_within

pub no_fault : (t : List ℕ) (n p : ℕ) → Obeys t → Fault t n p → ⊥
no_fault t n p h (too_small l) = omega (arith, h.least)
no_fault t n p h (too_large l) = omega (arith, h.most)
no_fault t n p h (in_row {o} {part} a b f) = f.breaks (keeps_all t o h f.starts part)

-- the first row, and the first part of it
first_one : (t : List ℕ) (o p : ℕ) (q r : Part) → FirstBroken t o q → FirstBroken t p r → (part_number q ≡ part_number r) × (o ≡ p)
first_one t o p q r a b = go (ℕ_discrete o p) (leb o p) refl
  where
    same_row : o ≡ p → (x : Bool) → leb (part_number q) (part_number r) ≡ x → (y : Bool) → leb (part_number r) (part_number q) ≡ y → part_number q ≡ part_number r
    same_row e false ex y ey = absurd (b.breaks (rw (← e) (a.parts_before r (leb-false (part_number q) (part_number r) ex))))
    same_row e true ex false ey = absurd (a.breaks (rw e (b.parts_before q (leb-false (part_number r) (part_number q) ey))))
    same_row e true ex true ey = omega (arith, leb-true (part_number q) (part_number r) ex, leb-true (part_number r) (part_number q) ey)

    go : Dec (o ≡ p) → (x : Bool) → leb o p ≡ x → (part_number q ≡ part_number r) × (o ≡ p)
    go (yes e) x ex = (same_row e (leb (part_number q) (part_number r)) refl (leb (part_number r) (part_number q)) refl, e)
    go (no n) true ex = absurd (a.breaks (b.rows_before o a.starts (omega (arith, leb-true o p ex)) q))
    go (no n) false ex = absurd (b.breaks (a.rows_before p b.starts (leb-false o p ex) r))

pub one_fault : (t : List ℕ) (n p m q : ℕ) → Fault t n p → Fault t m q → (n ≡ m) × (p ≡ q)
one_fault t n p m q (too_small a) (too_small b) = (refl, refl)
one_fault t n p m q (too_small a) (too_large b) = (refl, refl)
one_fault t n p m q (too_small a) (in_row b c d) = absurd (omega arith)
one_fault t n p m q (too_large a) (too_small b) = (refl, refl)
one_fault t n p m q (too_large a) (too_large b) = (refl, refl)
one_fault t n p m q (too_large a) (in_row b c d) = absurd (omega arith)
one_fault t n p m q (in_row a b c) (too_small d) = absurd (omega arith)
one_fault t n p m q (in_row a b c) (too_large d) = absurd (omega arith)
one_fault t n p m q (in_row a b c) (in_row d e f) = first_one t _ _ _ _ c f

-- ── exactly ──

-- the verdict passes a table exactly when it obeys the rules
pub passes-exactly : (t : List ℕ) → (verdict t ≡ passed) ↔ Obeys t
passes-exactly t = (λ e. subst (λ (v : Verdict). Says t v) e (says t), λ h. go (verdict t) (says t) h)
  where
    go : (v : Verdict) → Says t v → Obeys t → v ≡ passed
    go passed s h = refl
    go (broken r) s h = absurd (no_fault t r.number r.place h s)

-- and breaks it with a number at a place exactly when these are its fault
pub refuses-exactly : (t : List ℕ) (n p : ℕ) → (verdict t ≡ broken (refusal_at n p)) ↔ Fault t n p
refuses-exactly t n p = (λ e. subst (λ (v : Verdict). Says t v) e (says t), λ f. go (verdict t) (says t) f)
  where
    go : (v : Verdict) → Says t v → Fault t n p → v ≡ broken (refusal_at n p)
    go passed s f = absurd (no_fault t n p s f)
    go (broken r) s f = let e = one_fault t r.number r.place n p s f in ap₂ (λ n p. broken (refusal_at n p)) e.0 e.1
