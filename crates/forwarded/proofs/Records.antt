-- Records and lists of them: a test of a record and what it says; the first record that passes a test; and a live record with an ID.
use Prim.Native.Nat.{ℕ, zero, suc, ◌-◌, ◌<◌}
use native.Mathlib.Nat.{le_of_suc-le-suc, not-suc-le-zero}
use native.Mathlib.Omega.{arith}
use mathlib.Core.Bool.{Bool, true, false, cond, ◌&&◌, ◌||◌, and-eq-true_iff, true≢false}
use mathlib.Core.Logic.{◌⊎◌, inl, inr}
use mathlib.Core.Path.{◌≡◌, refl, sym, ◌∙◌}
use mathlib.Core.List.{List, [], ◌∷◌}
use lib.Dec.{ltb, eqb}
use lib.ListN.{length}
use borrow.Author.Tests.{ltb-true, ltb-false, lt-ltb, le-ltb, eqb-true, eq-eqb}
use Rattle.seen.specs.declared.Seen.{Seen}
use Rattle.seen.specs.Records.{live_at, first_with, holds}
use Rattle.forwarded.specs.Steps.{Near, Live, at}

-- ── one record ──

either : (a b : Bool) → (a || b) ≡ true → (a ≡ true) ⊎ (b ≡ true)
either true b e = inl refl
either false b e = inr e

pub live_is : (t : ℕ) (r : Seen) → live_at t r ≡ true → Live t r
live_is t r e =
    let a = (and-eq-true_iff r.used _).0 e in
    (a.0, go (either (ltb t r.time) _ a.1))
  where
    go : (ltb t r.time ≡ true) ⊎ (ltb (t - r.time) 5000 ≡ true) → Near t r
    go (inl e) = inl (ltb-true t r.time e)
    go (inr e) = sides (ltb t r.time) refl (ltb-true (t - r.time) 5000 e)
      where
        sides : (b : Bool) → ltb t r.time ≡ b → t - r.time < 5000 → Near t r
        sides true e l = inl (ltb-true t r.time e)
        sides false e l = inr (ltb-false t r.time e, omega (arith, ltb-false t r.time e))

pub is_live : (t : ℕ) (r : Seen) → Live t r → live_at t r ≡ true
is_live t r h = go h.1
  where
    go : Near t r → live_at t r ≡ true
    go (inl l) = rw (h.0, lt-ltb t r.time l)
    go (inr l) = let near : t - r.time < 5000 = omega (arith, l.0, l.1) in rw (h.0, le-ltb t r.time l.0, lt-ltb (t - r.time) 5000 near)

pub not_live : (t : ℕ) (r : Seen) → live_at t r ≡ false → Live t r → ⊥
not_live t r e h = true≢false (sym (is_live t r h) ∙ e)

pub live_not : (t : ℕ) (r : Seen) → (Live t r → ⊥) → live_at t r ≡ false
live_not t r f = go (live_at t r) refl
  where
    go : (b : Bool) → live_at t r ≡ b → b ≡ false
    go true e = absurd (f (live_is t r e))
    go false e = refl

-- ── the first that passes a test ──

module _ (p : Seen → Bool) where
  pub first_passes : (rs : List Seen) → first_with p rs < length rs → p (at rs (first_with p rs)) ≡ true
  first_passes [] l = absurd (not-suc-le-zero l)
  first_passes (r ∷ rs) l = go (p r) refl (first_passes rs) l
    where
      go : (b : Bool) → p r ≡ b → (first_with p rs < length rs → p (at rs (first_with p rs)) ≡ true) → cond b zero (suc (first_with p rs)) < suc (length rs) → p (at (r ∷ rs) (cond b zero (suc (first_with p rs)))) ≡ true
      go true e f l = e
      go false e f l = f (le_of_suc-le-suc l)

  pub before_first : (rs : List Seen) (i : ℕ) → i < first_with p rs → p (at rs i) ≡ false
  before_first [] i l = absurd (not-suc-le-zero l)
  before_first (r ∷ rs) i l = go (p r) refl (before_first rs) i l
    where
      go : (b : Bool) → p r ≡ b → ((i : ℕ) → i < first_with p rs → p (at rs i) ≡ false) → (i : ℕ) → i < cond b zero (suc (first_with p rs)) → p (at (r ∷ rs) i) ≡ false
      go true e f i l = absurd (not-suc-le-zero l)
      go false e f zero l = e
      go false e f (suc i) l = f i (le_of_suc-le-suc l)

  pub some_first : (rs : List Seen) (i : ℕ) → i < length rs → p (at rs i) ≡ true → first_with p rs < length rs
  some_first [] i l e = absurd (not-suc-le-zero l)
  some_first (r ∷ rs) i l e = go (p r) refl (some_first rs) i l e
    where
      go : (b : Bool) → p r ≡ b → ((i : ℕ) → i < length rs → p (at rs i) ≡ true → first_with p rs < length rs) → (i : ℕ) → i < suc (length rs) → p (at (r ∷ rs) i) ≡ true → cond b zero (suc (first_with p rs)) < suc (length rs)
      go true e f i l h = omega arith
      go false e f zero l h = absurd (true≢false (sym h ∙ e))
      go false e f (suc i) l h = let g = f i (le_of_suc-le-suc l) h in omega arith

-- ── a live record with an ID ──

module _ (id t : ℕ) where
  abbrev has : Seen → Bool
  has r = eqb r.id id && live_at t r

  pub holds_at : (rs : List Seen) (i : ℕ) → i < length rs → live_at t (at rs i) ≡ true → (at rs i).id ≡ id → holds id t rs ≡ true
  holds_at [] i l live same = absurd (not-suc-le-zero l)
  holds_at (r ∷ rs) zero l live same = rw (eq-eqb r.id id same, live)
  holds_at (r ∷ rs) (suc i) l live same = later (has r) (holds_at rs i (le_of_suc-le-suc l) live same)
    where
      later : (b : Bool) {h : Bool} → h ≡ true → (b || h) ≡ true
      later true e = refl
      later false e = e

  pub holds_from : (rs : List Seen) → holds id t rs ≡ true → (i : ℕ) × (i < length rs) × (live_at t (at rs i) ≡ true) × ((at rs i).id ≡ id)
  holds_from [] e = absurd (true≢false (sym e))
  holds_from (r ∷ rs) e = go (either (has r) _ e) (holds_from rs)
    where
      go : (has r ≡ true) ⊎ (holds id t rs ≡ true) → (holds id t rs ≡ true → (i : ℕ) × (i < length rs) × (live_at t (at rs i) ≡ true) × ((at rs i).id ≡ id))
          → (i : ℕ) × (i < suc (length rs)) × (live_at t (at (r ∷ rs) i) ≡ true) × ((at (r ∷ rs) i).id ≡ id)
      go (inl h) f = let a = (and-eq-true_iff (eqb r.id id) (live_at t r)).0 h in (0, omega arith, a.1, eqb-true r.id id a.0)
      go (inr h) f = let x = f h in (suc x.0, suc_le x.1, x.2, x.3)
        where
          suc_le : {a b : ℕ} → a < b → suc a < suc b
          suc_le l = omega arith
