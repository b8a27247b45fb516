-- The rule of the constant table, proved once: two tests that are computed over the whole table, and one law that turns
-- them into document 01's answer for every ID at every home.
use Prim.Native.Nat.{ℕ, zero, suc, ◌+◌, ◌<◌}
use mathlib.Core.Bool.{Bool, true, false, cond, not, ◌&&◌, ◌||◌, and-eq-true_iff, false≢true}
use mathlib.Core.Path.{◌≡◌, refl, sym, ◌∙◌}
use mathlib.Core.List.{List, [], ◌∷◌}
use native.Mathlib.Omega.{arith}
use native.Mathlib.Numerals.{add-one}
use lib.Dec.{eqb}
use lib.ListN.{length, get_or, drop}
use lib.Seq.{drop-cons}
use borrow.Author.Tests.{eqb-true, lt-ltb}
use Rattle.elements.specs.declared.Known.{Known}
use Rattle.elements.specs.Elements.{Word, here, elsewhere, unknown, ids_at, listed, among, element_word}

-- the constant table of src/lib.rt
unfoldable pub known : List Known
known =
    record { id = 4; home = 0 } ∷ record { id = 15; home = 0 } ∷ record { id = 16; home = 0 }
    ∷ record { id = 80; home = 0 } ∷ record { id = 81; home = 0 } ∷ record { id = 82; home = 0 }
    ∷ record { id = 83; home = 1 }
    ∷ record { id = 8; home = 2 } ∷ record { id = 9; home = 2 } ∷ record { id = 10; home = 2 } ∷ record { id = 11; home = 2 }
    ∷ record { id = 19; home = 2 } ∷ record { id = 20; home = 2 } ∷ record { id = 22; home = 2 } ∷ record { id = 24; home = 2 }
    ∷ record { id = 85; home = 2 } ∷ []

-- ── the search ──

-- what an entry says of its own ID at a home
abbrev pub entry_word : Known → ℕ → Word
entry_word k home = cond (eqb k.home home) here elsewhere

-- what a search of the entries answers
abbrev pub seek : ℕ → ℕ → List Known → Word
seek id home [] = unknown
seek id home (k ∷ ks) = cond (eqb k.id id) (entry_word k home) (seek id home ks)

-- the IDs of the entries
abbrev ids : List Known → List ℕ
ids [] = []
ids (k ∷ ks) = k.id ∷ ids ks

-- ── the tests ──

-- an entry is right at a home: its own home lists its ID, and no other home does, though one does
abbrev right_at : Known → ℕ → Bool
right_at k home = cond (eqb k.home home) (among k.id (ids_at home)) (not (among k.id (ids_at home)) && among k.id listed)

-- a test holds at each home
abbrev at_homes : (ℕ → Bool) → Bool
at_homes f = f 0 && (f 1 && f 2)

abbrev all_right : List Known → Bool
all_right [] = true
all_right (k ∷ ks) = at_homes (right_at k) && all_right ks

-- each of these IDs has an entry
abbrev all_there : List ℕ → List Known → Bool
all_there [] t = true
all_there (x ∷ xs) t = among x (ids t) && all_there xs t

-- ── the law ──

at_each : (f : ℕ → Bool) → at_homes f ≡ true → (home : ℕ) → home < 3 → f home ≡ true
at_each f t zero h = ((and-eq-true_iff (f 0) (f 1 && f 2)).0 t).0
at_each f t (suc zero) h = ((and-eq-true_iff (f 1) (f 2)).0 ((and-eq-true_iff (f 0) (f 1 && f 2)).0 t).1).0
at_each f t (suc (suc zero)) h = ((and-eq-true_iff (f 1) (f 2)).0 ((and-eq-true_iff (f 0) (f 1 && f 2)).0 t).1).1
at_each f t (suc (suc (suc home))) h = absurd (omega arith)

-- what a right entry says, by whether this home is its own, lists its ID, or some home does
says : (own at some : Bool) → cond own at (not at && some) ≡ true → cond at here (cond some elsewhere unknown) ≡ cond own here elsewhere
says true true some t = refl
says true false some t = absurd (false≢true t)
says false true some t = absurd (false≢true t)
says false false true t = refl
says false false false t = absurd (false≢true t)

module _ (id home : ℕ) (h : home < 3) where
  -- a right entry answers for its ID
  right-answers : (k : Known) → k.id ≡ id → at_homes (right_at k) ≡ true → entry_word k home ≡ element_word id home
  unfolding element_word
  right-answers k e t =
      rw (← e, lt-ltb home 3 h)
      (sym (says (eqb k.home home) (among k.id (ids_at home)) (among k.id listed) (at_each (right_at k) t home h)))

  -- where the entries are right, and an ID without an entry is unknown, a search answers as document 01 does
  seek-right : (t : List Known) → all_right t ≡ true → (among id (ids t) ≡ false → unknown ≡ element_word id home) → seek id home t ≡ element_word id home
  seek-right [] r m = m refl
  seek-right (k ∷ ks) r m = by (eqb k.id id) refl ((and-eq-true_iff (at_homes (right_at k)) (all_right ks)).0 r) m (seek-right ks)
    where
      by : (b : Bool) → eqb k.id id ≡ b
          → (at_homes (right_at k) ≡ true) × (all_right ks ≡ true)
          → (b || among id (ids ks) ≡ false → unknown ≡ element_word id home)
          → (all_right ks ≡ true → (among id (ids ks) ≡ false → unknown ≡ element_word id home) → seek id home ks ≡ element_word id home)
          → cond b (entry_word k home) (seek id home ks) ≡ element_word id home
      by true e r m rest = right-answers k (eqb-true k.id id e) r.0
      by false e r m rest = rest r.1 m

-- an ID without an entry is not among IDs that all have one
missing : (id : ℕ) (t : List Known) → among id (ids t) ≡ false → (xs : List ℕ) → all_there xs t ≡ true → among id xs ≡ false
missing id t m [] r = refl
missing id t m (x ∷ xs) r = by (eqb x id) refl ((and-eq-true_iff (among x (ids t)) (all_there xs t)).0 r) (missing id t m xs)
  where
    by : (b : Bool) → eqb x id ≡ b → (among x (ids t) ≡ true) × (all_there xs t ≡ true)
        → (all_there xs t ≡ true → among id xs ≡ false) → b || among id xs ≡ false
    by true e r rest = absurd (false≢true (sym m ∙ (rw (eqb-true x id e) at r.0)))
    by false e r rest = rest r.1

-- an ID without an entry in the constant table is unknown
missing-unknown : (id home : ℕ) → home < 3 → among id (ids known) ≡ false → unknown ≡ element_word id home
unfolding known ids_at element_word
missing-unknown id home h m =
    rw (
      lt-ltb home 3 h,
      missing id known m (ids_at home) (at_each (λ home. all_there (ids_at home) known) refl home h),
      missing id known m listed refl,
    )

-- a search of the constant table gives document 01's answer
pub seek_known : (id home : ℕ) → home < 3 → seek id home known ≡ element_word id home
unfolding known ids_at
seek_known id home h = seek-right id home h known refl (missing-unknown id home h)

-- ── the search, entry by entry ──

-- what is left of a search at an entry of another ID
pub seek_on : (id home : ℕ) (t : List Known) (i : ℕ) (d : Known) → i < length t → eqb (get_or t i d).id id ≡ false
    → seek id home (drop (i + 1) t) ≡ seek id home (drop i t)
seek_on id home t i d h e = rw (drop-cons t i d h, e, add-one i)

-- a search that has come to an entry of its ID
pub seek_found : (id home : ℕ) (t : List Known) (i : ℕ) (d : Known) → i < length t → eqb (get_or t i d).id id ≡ true
    → (own : Bool) → eqb (get_or t i d).home home ≡ own → seek id home (drop i t) ≡ cond own here elsewhere
seek_found id home t i d h e own o = rw (drop-cons t i d h, e, o)
