-- The answers of fetching and of storing taken apart: what each says of the message and the place.
use Prim.Native.Nat.{ℕ, ◌+◌, ◌*◌, ◌≤◌, ◌<◌}
use mathlib.Core.Bool.{Bool, true, false, cond}
use mathlib.Core.Path.{◌≡◌, refl, sym, ap, ◌∙◌}
use mathlib.Core.List.{List, [], ◌++◌}
use native.Mathlib.Decide.{dec_lt}
use native.Mathlib.Nat.{add-zero}
use native.Mathlib.Omega.{arith}
use lib.Dec.{leb}
use lib.ListN.{length, take, drop, length-append, take-append-drop}
use borrow.Author.Tests.{leb-true, leb-false, le-leb, lt-leb}
use Rattle.bits.specs.Bits.{number_of, bits_of, unpack}
use Rattle.bits.specs.Access.{place_at, fetched, stored, overwritten}
use Rattle.bits.specs.declared.BitPlace.{BitPlace}
use Rattle.bits.proofs.Bits.{length-bits_of, length-unpack}
use Rattle.bits.proofs.Splice.{spliced, length-spliced, spliced-spliced}
use Rattle.std.proofs.Common.{Some, None}

-- the answer is not the second one, so the test was true and it is the first
first_chosen : {A : Type 0} (t : Bool) (x y z : A) → cond t x y ≡ z → ((y ≡ z) → ⊥) → (t ≡ true) × (x ≡ z)
first_chosen true x y z e other = (refl, e)
first_chosen false x y z e other = absurd (other e)

-- the answer is not the first one, so the test was false
first_passed : {A : Type 0} (t : Bool) (x y z : A) → cond t x y ≡ z → ((x ≡ z) → ⊥) → t ≡ false
first_passed true x y z e other = absurd (other e)
first_passed false x y z e other = refl

Some_is_not_None : {A : Type 0} (x : A) → Some x ≡ None → ⊥
Some_is_not_None x e = let z : ◌≡◌ {A = ℕ} 0 1 = cc in omega arith

-- ---- fetching k bits at p

module _ (m : List ℕ) (p k : ℕ) where
  abbrev value : ℕ
  value = number_of (take k (drop p (unpack m)))

  pub fetched_inside : p + k ≤ 8 * length m → fetched m p k ≡ Some (value, place_at (p + k))
  fetched_inside h = rw (le-leb (p + k) (8 * length m) h)

  pub fetched_past_end : 8 * length m < p + k → fetched m p k ≡ None
  fetched_past_end h = rw (lt-leb (p + k) (8 * length m) h)

  pub fetched-Short : fetched m p k ≡ None → 8 * length m < p + k
  fetched-Short e =
      let t = leb (p + k) (8 * length m) in
      leb-false _ _ (first_passed t (Some (value, place_at (p + k))) None None e (Some_is_not_None (value, place_at (p + k))))

  pub fetched-Bits : (v : ℕ) (q : BitPlace) → fetched m p k ≡ Some (v, q)
      → (p + k ≤ 8 * length m) × (v ≡ number_of (take k (drop p (unpack m)))) × (q.0 ≡ p + k)
  fetched-Bits v q e =
      let t = leb (p + k) (8 * length m) in
      let c = first_chosen t (Some (value, place_at (p + k))) None (Some (v, q)) e (λ d. Some_is_not_None (v, q) (sym d)) in
      let b = c.1 in
      let s : ◌≡◌ {A = ℕ × BitPlace} (value, place_at (p + k)) (v, q) = cc in
      (leb-true _ _ c.0, ap (λ (r : ℕ × BitPlace). r.0) (sym s), ap (λ (r : ℕ × BitPlace). r.1.0) (sym s))

-- ---- storing k bits at p

module _ (m : List ℕ) (p k : ℕ) where
  pub stored_inside : p + k ≤ 8 * length m → stored m p k ≡ Some (place_at (p + k))
  stored_inside h = rw (le-leb (p + k) (8 * length m) h)

  pub stored_past_end : 8 * length m < p + k → stored m p k ≡ None
  stored_past_end h = rw (lt-leb (p + k) (8 * length m) h)

  pub stored-Full : stored m p k ≡ None → 8 * length m < p + k
  stored-Full e =
      let t = leb (p + k) (8 * length m) in
      leb-false _ _ (first_passed t (Some (place_at (p + k))) None None e (Some_is_not_None (place_at (p + k))))

  pub stored-Next : (q : BitPlace) → stored m p k ≡ Some q → (p + k ≤ 8 * length m) × (q.0 ≡ p + k)
  stored-Next q e =
      let t = leb (p + k) (8 * length m) in
      let c = first_chosen t (Some (place_at (p + k))) None (Some q) e (λ d. Some_is_not_None q (sym d)) in
      let n = c.1 in
      let s : place_at (p + k) ≡ q = cc in
      (leb-true _ _ c.0, ap (λ (r : BitPlace). r.0) (sym s))

-- ---- the bits that storing leaves

module _ (b : List Bool) (p : ℕ) (x : List Bool) where
  pub overwritten_inside : p + length x ≤ length b → overwritten b p x ≡ take p b ++ (x ++ drop (p + length x) b)
  overwritten_inside h = rw (le-leb (p + length x) (length b) h)

  pub overwritten_past_end : length b < p + length x → overwritten b p x ≡ b
  overwritten_past_end h = rw (lt-leb (p + length x) (length b) h)

  pub length-overwritten : length (overwritten b p x) ≡ length b
  length-overwritten = elim (dec_lt (length b) (p + length x)) [
    | yes h ↦ ap length (overwritten_past_end h)
    | no h ↦
        let fits : p + length x ≤ length b = omega arith in
        ap length (overwritten_inside fits) ∙ length-spliced b p x fits
  ]

  -- y stored after x is x and y stored at once
  pub overwritten-overwritten : (y : List Bool) → p + length (x ++ y) ≤ length b
      → overwritten (overwritten b p x) (p + length x) y ≡ overwritten b p (x ++ y)
  overwritten-overwritten y h =
      let n = length-append x y in
      let fits : p + length x ≤ length b = omega arith in
      let after : p + length x + length y ≤ length (spliced b p x) = rw (length-spliced b p x fits) (omega arith) in
      rw (
        le-leb (p + length x) (length b) fits,
        le-leb (p + length x + length y) (length (spliced b p x)) after,
        le-leb (p + length (x ++ y)) (length b) h,
      )
      (spliced-spliced b p x y fits)

-- no bits put anywhere
pub overwritten_none : (b : List Bool) (p : ℕ) → overwritten b p [] ≡ b
overwritten_none b p = go (leb (p + 0) (length b)) (take-append-drop p b)
  where
    go : (t : Bool) → take p b ++ drop p b ≡ b → cond t (take p b ++ drop (p + 0) b) b ≡ b
    go true e = rw add-zero e
    go false e = refl

-- storing k bits of v at p, with room for them: bits with those from p on replaced are what it leaves
module _ (m : List ℕ) (p k v : ℕ) (fits : p + k ≤ 8 * length m) where
  pub stored-spliced : {b : List Bool} → b ≡ spliced (unpack m) p (bits_of k v)
      → (Some (place_at (p + k)) ≡ stored m p k) × (b ≡ overwritten (unpack m) p (bits_of k v))
  stored-spliced e = (
    sym (stored_inside m p k fits),
    e ∙ sym (overwritten_inside (unpack m) p (bits_of k v) (rw (length-unpack, length-bits_of) fits)),
  )
