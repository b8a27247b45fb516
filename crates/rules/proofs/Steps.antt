-- The steps of the check make up the row's verdict of Tests.antt: the end, the kind, the length, the numbers, the references, a
-- branch, the depth.
-- Assumes nothing.
use Prim.Native.Nat.{ℕ, zero, suc, ◌+◌, ◌*◌, ◌≤◌, ◌<◌, max}
use mathlib.Core.Bool.{Bool, true, false, cond, not, ◌&&◌, ◌||◌, false≢true, and-eq-true_iff}
use mathlib.Core.Path.{◌≡◌, refl, sym, ap, ◌∙◌}
use mathlib.Core.Logic.{◌≢◌}
use mathlib.Core.List.{List, [], ◌∷◌}
use native.Mathlib.Omega.{arith}
use native.Mathlib.Numerals.{add-one}
use lib.Dec.{leb, eqb}
use lib.ListN.{length}
use borrow.Author.Tests.{le-leb, lt-leb, eqb-true, eq-eqb, not-true}
use Rattle.octets.specs.Numbers.{u16, u16s, there}
use Rattle.row.specs.Rows.{row_of, row_at, within}
use Rattle.rules.specs.Rules.{flags_in_bounds, references, branches, has_branch, some_branch, deepest, its_end, its_kind, its_length, its_numbers, its_references, its_branch, its_depth}
use Rattle.rules.specs.Tests.{depth_in, all_passed, row_depth, RowVerdict, sound, demand, row_verdict}
use Rattle.row.specs.Kinds.{by_kind, length_of, least_count, most_count, count_of, reference_count, reference_step, may_reserve, flag_count, least_below}
use Rattle.rules.specs.Steps.{Headed, kept, deepest_from, told_as, row_tested}
use Rattle.row.proofs.Bools.{cond-second, and-false}
use Rattle.row.proofs.ByKind.{Kind, number, variable, fixed, counted, group, choice, octets, open_octets, none, kind_of, length-references}
use Rattle.rules.proofs.ByKind.{known_kind_lem, row-length, row-numbers, row-references}
use Rattle.std.proofs.Common.{Ok, Err, Some, None}
use Rattle.answer.specs.declared.Reason.TheVariants.{RowPastEnd, UnknownKind, WrongRowLength, WrongRowNumber, WrongReference, OnlyReserved, TooDeep}

-- ── a branch ──

-- some branch is not reserved exactly if the deepest row referred to is no 0, where all have passed
some_branch_lem : (d rs : List ℕ) → all_passed d (branches rs) ≡ true → some_branch rs ≡ leb 1 (deepest (depth_in d) (branches rs))
unfolding branches some_branch
some_branch_lem d [] h = refl
some_branch_lem d (r ∷ rs) h = go (there r) h (some_branch_lem d rs)
  where
    go : (b : Bool) → all_passed d (cond b (r ∷ branches rs) (branches rs)) ≡ true
        → (all_passed d (branches rs) ≡ true → some_branch rs ≡ leb 1 (deepest (depth_in d) (branches rs)))
        → b || some_branch rs ≡ leb 1 (deepest (depth_in d) (cond b (r ∷ branches rs) (branches rs)))
    go true h ih =
        let p = (and-eq-true_iff (not (eqb (depth_in d r) 0)) (all_passed d (branches rs))).0 h in
        let z : depth_in d r ≢ 0 = λ e. false≢true (sym (not-true (eqb (depth_in d r) 0) p.0) ∙ eq-eqb (depth_in d r) 0 e) in
        sym (le-leb 1 (max (depth_in d r) (deepest (depth_in d) (branches rs))) (above (depth_in d r) (deepest (depth_in d) (branches rs)) z))
      where
        above : (a b : ℕ) → a ≢ 0 → 1 ≤ max a b
        above zero b n = absurd (n refl)
        above (suc a) b n = omega arith
    go false h ih = ih h

zero-least : (n : ℕ) → leb 0 n ≡ true
zero-least n = le-leb 0 n (omega arith)

module _ (t : List ℕ) (o : ℕ) (d : List ℕ) where
  has_branch_lem : (k : ℕ) → within 1 8 k ≡ true → all_passed d (references (row_of t o k)) ≡ true
      → has_branch (row_of t o k) ≡ leb (least_below k) (deepest (depth_in d) (references (row_of t o k)))
  unfolding has_branch row_of by_kind least_below references
  has_branch_lem k h p = go (kind_of k) h p
    where
      go : {k : ℕ} → Kind k → within 1 8 k ≡ true → all_passed d (references (row_of t o k)) ≡ true
          → has_branch (row_of t o k) ≡ leb (least_below k) (deepest (depth_in d) (references (row_of t o k)))
      go number h p = refl
      go variable h p = refl
      go fixed h p = rw zero-least
      go counted h p = rw zero-least
      go group h p = rw zero-least
      go choice h p = some_branch_lem d (u16s t (o + 6) 2 (u16 t (o + 4))) p
      go octets h p = refl
      go open_octets h p = refl
      go (none n) h p = absurd (false≢true (sym n ∙ h))

-- ── the whole verdict ──

-- the parts after the kind, by their tests
abbrev rest : Bool → Bool → Bool → Bool → Bool → RowVerdict
rest a b c g x = demand a its_length (demand b its_numbers (demand c its_references (demand g its_branch (demand x its_depth sound))))

-- tests that are the same where the kind is known, one of them where the references are right
same_tests : (e k a b c g x a' b' c' g' x' : Bool)
    → (k ≡ true → (a ≡ a') × (b ≡ b') × (c ≡ c') × (c' ≡ true → g ≡ g') × (x ≡ x'))
    → demand e its_end (demand k its_kind (rest a b c g x)) ≡ demand e its_end (demand k its_kind (rest a' b' c' g' x'))
same_tests false k a b c g x a' b' c' g' x' h = refl
same_tests true false a b c g x a' b' c' g' x' h = refl
same_tests true true a b c g x a' b' c' g' x' h =
    let w = h refl in
    rw (w.0, w.1, w.2, w.4) (go c' w.3)
  where
    go : (c : Bool) → (c ≡ true → g ≡ g') → rest a' b' c g x' ≡ rest a' b' c g' x'
    go false h = refl
    go true h = rw (h refl)

-- the numbers and the references that the row at o has as one of a kind, with that count
abbrev pub numbers_of : List ℕ → ℕ → ℕ → ℕ → Bool
numbers_of t o k m = within (least_count k) (most_count k) m && flags_in_bounds (u16s t (o + 8) 4 (flag_count k m))

abbrev pub references_of : List ℕ → ℕ → ℕ → ℕ → List ℕ
references_of t o k m = kept (may_reserve k) (u16s t (o + 6) (reference_step k) (reference_count k m))

-- the verdict on a row of a known kind with that length and count, as the steps come to it
unfoldable steps_verdict : List ℕ → ℕ → ℕ → ℕ → ℕ → List ℕ → RowVerdict
steps_verdict t o l k m d =
    let below = deepest (depth_in d) (references_of t o k m) in
    rest (eqb l (length_of k m)) (numbers_of t o k m) (all_passed d (references_of t o k m)) (leb (least_below k) below) (leb (suc below) 32)

module _ (t : List ℕ) (o : ℕ) (d : List ℕ) where
  -- the row at o, as one of a kind with that length and count
  by_kind_of : ℕ → ℕ → ℕ → RowVerdict
  by_kind_of l k m =
      demand (leb (o + 4) (length t) && leb (o + l) (length t)) its_end
      (demand (within 1 8 k) its_kind
      (steps_verdict t o l k m d))

  row-steps : row_verdict t o d ≡ by_kind_of (u16 t o) (u16 t (o + 2)) (count_of t o (u16 t (o + 2)))
  unfolding row_verdict row_at row_depth steps_verdict by_kind_of
  row-steps =
      let k = u16 t (o + 2) in
      rw (known_kind_lem t o k)
      (same_tests (leb (o + 4) (length t) && leb (o + u16 t o) (length t)) (within 1 8 k) _ _ _ _ _ _ _ _ _ _ (λ h.
      let e = row-references t o k h in (
        ap (eqb (u16 t o)) (row-length t o k h),
        row-numbers t o k h,
        ap (all_passed d) e,
        λ p. has_branch_lem t o d k h (ap (all_passed d) e ∙ p) ∙ ap (λ rs. leb (least_below k) (deepest (depth_in d) rs)) e,
        ap (λ rs. leb (suc (deepest (depth_in d) rs)) 32) e,
      )))

  -- ── its end and its kind ──

  pub short-broken : length t < o + 4 → Err RowPastEnd ≡ row_tested t o d
  unfolding row_tested by_kind_of
  short-broken h = rw (row-steps, lt-leb (o + 4) (length t) h)

  module _ (l : ℕ) (length_is : l ≡ u16 t o) where
    pub outside-broken : length t < o + l → Err RowPastEnd ≡ row_tested t o d
    unfolding row_tested by_kind_of
    outside-broken h = rw (row-steps, ← length_is, lt-leb (o + l) (length t) h, and-false (leb (o + 4) (length t)))

    pub kind-broken : (k : ℕ) → k ≡ u16 t (o + 2) → o + 4 ≤ length t → o + l ≤ length t → within 1 8 k ≡ false → Err UnknownKind ≡ row_tested t o d
    unfolding row_tested by_kind_of
    kind-broken k kind_is a b h = rw (row-steps, ← length_is, ← kind_is, le-leb (o + 4) (length t) a, le-leb (o + l) (length t) b, h)

-- ── what the steps answer after these ──

module _ {t : List ℕ} {o l k : ℕ} (d : List ℕ) (h : Headed t o l k) (m : ℕ) (count-is : m ≡ count_of t o k) where
  told-steps : row_tested t o d ≡ told_as (steps_verdict t o l k m d) l (suc (deepest (depth_in d) (references_of t o k m)))
  unfolding row_tested row_depth row_at by_kind_of
  told-steps =
      rw (
        row-steps t o d,
        ← h.length_is,
        ← h.kind_is,
        count-is,
        le-leb (o + 4) (length t) h.room,
        le-leb (o + l) (length t) h.inside,
        h.known,
        row-references t o k h.known,
      )
      refl

  pub length-broken : eqb l (length_of k m) ≡ false → Err WrongRowLength ≡ row_tested t o d
  unfolding steps_verdict
  length-broken e = rw (told-steps, e)

  module _ (whole : eqb l (length_of k m) ≡ true) where
    -- the flags and the references lie inside the table
    pub row_inside : o + length_of k m ≤ length t
    row_inside = omega (arith, h.inside, eqb-true l (length_of k m) whole)

    pub references_inside : 0 < reference_count k m → o + 6 + reference_step k * reference_count k m ≤ length t
    references_inside f = omega (arith, length-references k m f, row_inside)

    pub numbers-broken : numbers_of t o k m ≡ false → Err WrongRowNumber ≡ row_tested t o d
    unfolding steps_verdict
    numbers-broken e = rw (told-steps, whole, e)

    module _ (numbers : numbers_of t o k m ≡ true) where
      pub reference-broken : deepest_from d 0 (references_of t o k m) ≡ None → Err WrongReference ≡ row_tested t o d
      unfolding steps_verdict deepest_from
      reference-broken e =
          let z = cond-second (all_passed d (references_of t o k m)) _ None (λ q. let z : ◌≡◌ {A = ℕ} 0 1 = cc in omega arith) e in
          rw (told-steps, whole, numbers, z)

      module _ (x : ℕ) (p : deepest_from d 0 (references_of t o k m) ≡ Some x) where
        below_is : (all_passed d (references_of t o k m) ≡ true) × (x ≡ deepest (depth_in d) (references_of t o k m))
        unfolding deepest_from
        below_is = go (all_passed d (references_of t o k m)) p
          where
            go : (b : Bool) → cond b (Some (max 0 (deepest (depth_in d) (references_of t o k m)))) None ≡ Some x
                → (b ≡ true) × (x ≡ deepest (depth_in d) (references_of t o k m))
            go true p = (refl, let e : x ≡ max 0 (deepest (depth_in d) (references_of t o k m)) = cc in e ∙ max-zero (deepest (depth_in d) (references_of t o k m)))
              where
                max-zero : (n : ℕ) → max 0 n ≡ n
                max-zero n = omega arith
            go false p = absurd (let z : ◌≡◌ {A = ℕ} 0 1 = cc in omega arith)

        pub branch-broken : x < least_below k → Err OnlyReserved ≡ row_tested t o d
        unfolding steps_verdict
        branch-broken less = rw (told-steps, whole, numbers, below_is.0, ← below_is.1, lt-leb (least_below k) x less)

        pub depth-broken : least_below k ≤ x → 32 ≤ x → Err TooDeep ≡ row_tested t o d
        unfolding steps_verdict
        depth-broken b more = rw (told-steps, whole, numbers, below_is.0, ← below_is.1, le-leb (least_below k) x b, lt-leb (suc x) 32 (omega arith))

        pub row-sound : least_below k ≤ x → x < 32 → Ok (l, x + 1) ≡ row_tested t o d
        unfolding steps_verdict
        row-sound b less = rw (told-steps, whole, numbers, below_is.0, ← below_is.1, le-leb (least_below k) x b, le-leb (suc x) 32 less, add-one) refl
