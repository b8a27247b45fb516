-- The outcome of writing a value as each kind of item, case by case as the code comes to it.
use Prim.Native.Nat.{ℕ, suc, ◌+◌, ◌-◌, ◌*◌, ◌^◌, ◌≤◌, ◌<◌, min}
use mathlib.Core.Bool.{Bool, true, false, cond, ◌&&◌}
use mathlib.Core.Path.{◌≡◌, refl, sym, ap, ap₂, ◌∙◌}
use mathlib.Core.List.{List}
use native.Mathlib.Omega.{arith}
use lib.Arith.{digits_lt}
use lib.Dec.{leb}
use lib.IntN.{ℤ, pos, negsuc, ◌-ℤ◌}
use lib.Pow.{pow-add, pow_pos, pow_mono}
use lib.Signed.{mag}
use mir.Syntax.{w64}
use mir.Val.{to_z, of_z, SFits}
use mir.Facts.{to_z-of_z}
use borrow.Author.Tests.{leb-true, leb-false, le-leb, lt-leb}
use Rattle.bits.specs.Bits.{bits_of, unpack}
use Rattle.bits.specs.Access.{overwritten}
use Rattle.bits.proofs.Bits.{length-bits_of}
use Rattle.answer.specs.declared.Reason.{Reason}
use Rattle.answer.specs.declared.Reason.TheVariants.{WrongValue}
use Rattle.item.specs.Code.{Code, number, variable, length_within, index, low_of, spelling, base, variable_ones, length_ones, allows_offset, offset_bits, of_natural}
use Rattle.item.specs.Answers.{Put, put_at, bits_after, branches_at}
use Rattle.item.specs.Steps.{leading_worth}
use Rattle.write_item.specs.Steps.{within, distance_of, put_of}
use Rattle.item.proofs.Branches.{branch_past}
use Rattle.item.proofs.CodeLaws.{variable_ones_is, variable_ones_of, length_ones_of}
use Rattle.item.proofs.Leading.{spelling-bits}
use Rattle.item.proofs.Returned.{ok_or-Ok, ok_or-Err}
use Rattle.std.proofs.Common.{Result, Ok, Err, Some, None}

-- ── which offsets are allowed ──

and-false : (t : Bool) → t && false ≡ false
and-false true = refl
and-false false = refl

module _ (least most : ℕ) where
  pub length_past : (n : ℕ) → 16383 < n → allows_offset (length_within least most) n ≡ false
  length_past n h = rw (lt-leb n (min most 16383) (omega arith)) (and-false (leb least n))

  pub length-below : (n : ℕ) → n < least → allows_offset (length_within least most) n ≡ false
  length-below n h = rw (lt-leb least n h)

  pub length_above : (n : ℕ) → most < n → allows_offset (length_within least most) n ≡ false
  length_above n h = rw (lt-leb n (min most 16383) (omega arith)) (and-false (leb least n))

  pub length-allowed : (n : ℕ) → least ≤ n → n ≤ most → n ≤ 16383 → allows_offset (length_within least most) n ≡ true
  length-allowed n h l g = rw (le-leb least n h, le-leb n (min most 16383) (omega arith))

-- ── what the distance of a value says ──

within_Within : (span : ℕ) (d : ℤ) {n : ℕ} → within span d ≡ Some n → (d ≡ pos n) × (n ≤ span)
within_Within span (pos m) {n} e = go (leb m span) refl e
  where
    go : (t : Bool) → leb m span ≡ t → cond t (Some m) None ≡ Some n → (pos m ≡ pos n) × (n ≤ span)
    go true l e = let s : m ≡ n = cc in (ap pos s, omega (arith, leb-true m span l))
    go false l e = let z : ◌≡◌ {A = ℕ} 0 1 = cc in absurd (omega arith)
within_Within span (negsuc m) e = let z : ◌≡◌ {A = ℕ} 0 1 = cc in absurd (omega arith)

within_Outside : (span : ℕ) (d : ℤ) (f : ℕ → Bool) → within span d ≡ None → ((n : ℕ) → span < n → f n ≡ false) → of_natural f d ≡ false
within_Outside span (pos m) f e h = go (leb m span) refl e
  where
    go : (t : Bool) → leb m span ≡ t → cond t (Some m) None ≡ None → f m ≡ false
    go true l e = let z : ◌≡◌ {A = ℕ} 0 1 = cc in absurd (omega arith)
    go false l e = h m (leb-false m span l)
within_Outside span (negsuc m) f e h = refl

-- ── what writing gives ──

-- the answer r, and the bits after it, of a value that the item doesn't allow
abbrev pub Refused : Code → List ℕ → ℕ → ℤ → Put → Type 0
Refused c out p value r = (r ≡ put_at c out p value) × (unpack out ≡ bits_after c (unpack out) p value)

-- and of one that it allows, whose bits are the k of x
abbrev pub Written : Code → List ℕ → ℕ → ℤ → ℕ → ℕ → Type 0
Written c out p value k x = (put_of out p k ≡ put_at c out p value) × (overwritten (unpack out) p (bits_of k x) ≡ bits_after c (unpack out) p value)

-- what the code knows of a value once it has the distance r: the item allows no offset past the span
pub record Measured (c : Code) (value : ℤ) (span : ℕ) (r : Result ℕ Reason) : Type 0 where
  past : (n : ℕ) → span < n → allows_offset c n ≡ false
  distance : r ≡ distance_of span (value -ℤ low_of c)

module _ {c : Code} {value : ℤ} {span : ℕ} {r : Result ℕ Reason} (measured : Measured c value span r) where
  pub outside-refused : (out : List ℕ) (p : ℕ) {e : Reason} → r ≡ Err e → Refused c out p value (Err e)
  outside-refused out p h =
      let missing = ok_or-Err (within span (value -ℤ low_of c)) WrongValue (sym measured.distance ∙ h) in
      let f = within_Outside span (value -ℤ low_of c) (allows_offset c) missing.0 measured.past in
      (rw f (ap Err (sym missing.1)), rw f)

  module _ {n : ℕ} (h : r ≡ Ok n) where
    there : (value -ℤ low_of c ≡ pos n) × (n ≤ span)
    there = within_Within span (value -ℤ low_of c) (ok_or-Ok (within span (value -ℤ low_of c)) WrongValue (sym measured.distance ∙ h))

    pub inside_span : n ≤ span
    inside_span = there.1

    pub inside_refused : (out : List ℕ) (p : ℕ) → allows_offset c n ≡ false → Refused c out p value (Err WrongValue)
    inside_refused out p f = (rw (there.0, f), rw (there.0, f))

    pub inside_written : (out : List ℕ) (p k x : ℕ) → allows_offset c n ≡ true → offset_bits c n ≡ bits_of k x → Written c out p value k x
    inside_written out p k x t b = (rw (there.0, t, b, length-bits_of), rw (there.0, t, b))

-- from what `distance` ensures, kind by kind
module _ (value : ℤ) (fits : SFits w64 value) where
  measure : (c : Code) (span : ℕ) → ((n : ℕ) → span < n → allows_offset c n ≡ false) → mag (low_of c) ≤ 2147483648 → {r : Result ℕ Reason}
      → r ≡ distance_of span (to_z w64 (of_z w64 value) -ℤ to_z w64 (of_z w64 (low_of c))) → Measured c value span r
  measure c span past small e = record {
    past = past;
    distance = rw (to_z-of_z {w = w64} fits, to_z-of_z {w = w64} {z = low_of c} (record { sfits = omega arith })) at e;
  }

  module _ {r : Result ℕ Reason} where
    pub measured-number : (low : ℤ) (span : ℕ) → mag low ≤ 2147483648 → r ≡ distance_of span (to_z w64 (of_z w64 value) -ℤ to_z w64 (of_z w64 low))
        → Measured (number low span) value span r
    measured-number low span small e = measure (number low span) span (λ n. lt-leb n span) small e

    pub measured-variable : r ≡ distance_of 270549119 (to_z w64 (of_z w64 value) -ℤ pos 0) → Measured variable value 270549119 r
    measured-variable e = measure variable 270549119 (λ n. lt-leb n 270549119) (omega arith) e

    pub measured-length : (least most : ℕ) → r ≡ distance_of 16383 (to_z w64 (of_z w64 value) -ℤ pos 0) → Measured (length_within least most) value 16383 r
    measured-length least most e = measure (length_within least most) 16383 (length_past least most) (omega arith) e

    pub measured-index : (t : List ℕ) (from m : ℕ) → 1 ≤ m → r ≡ distance_of (m - 1) (to_z w64 (of_z w64 value) -ℤ pos 0)
        → Measured (index (branches_at t from m)) value (m - 1) r
    measured-index t from m some e = measure (index (branches_at t from m)) (m - 1) (λ n h. branch_past t from m n (omega arith)) (omega arith) e

-- ── items of whole octets ──

-- the bits that spell m after c ones, as the code makes them of the form's bits k and what its leading bits are worth, l
record Spelt (c m k l : ℕ) : Type 0 where
  pub bits : spelling c m ≡ bits_of k (l + m)
  pub below : l + m < 2 ^ k
  pub most : k ≤ 32
  pub word : l + m < 4294967296

spelt : (c m k l : ℕ) → c ≤ 3 → m < 2 ^ (7 * suc c) → k ≡ 8 * suc c → l ≡ leading_worth c → Spelt c m k l
unfolding leading_worth
spelt c m k l s h ek el =
    let a : suc c + 7 * suc c ≡ k = omega arith in
    let b : (2 ^ suc c - 2) * 2 ^ (7 * suc c) + m < 2 ^ (suc c + 7 * suc c) =
    rw (pow-add 2 (suc c) (7 * suc c)) (digits_lt (omega (arith, pow_pos (suc c))) h) in
    let w : l + m < 2 ^ k = rw (el, ← a) b in
    record {
      bits = spelling-bits c m h ∙ ap₂ bits_of (sym ek) (ap (◌+ m) (sym el));
      below = w;
      most = omega arith;
      word = omega (arith, pow_mono {i = k} {j = 32} (omega arith));
    }

-- a variable number, with the form's base a
pub variable-spelt : {n c k l a : ℕ} → n ≤ 270549119 → c ≡ variable_ones n → (k ≡ 8 * suc c) × (l ≡ leading_worth c) × (a ≡ base c)
    → (a ≤ n) × (l + (n - a) < 2 ^ k) × (k ≤ 32) × (l + (n - a) < 4294967296) × (offset_bits variable n ≡ bits_of k (l + (n - a)))
variable-spelt {n} {c} {k} {l} {a} h o form =
    let v = variable_ones_of n h in
    let ones : variable_ones n ≡ v.c = rw v.sum at (variable_ones_is v.c v.m v.small v.below) in
    let same : v.c ≡ c = sym (o ∙ ones) in
    let sum : base c + v.m ≡ n = rw same at v.sum in
    let m : v.m ≡ n - a = omega (arith, form.2) in
    let s = spelt c (n - a) k l (omega (arith, v.small)) (rw (same, m) at v.below) form.0 form.1 in (
      omega (arith, form.2),
      s.below,
      s.most,
      s.word,
      ap₂ spelling (sym o) (ap (λ j. n - base j) (sym o) ∙ ap (λ x. n - x) (sym form.2)) ∙ s.bits,
    )

-- a length
pub length-spelt : {n c k l a : ℕ} → n ≤ 16383 → c ≡ length_ones n → (k ≡ 8 * suc c) × (l ≡ leading_worth c) × (a ≡ base c)
    → (l + n < 2 ^ k) × (k ≤ 32) × (l + n < 4294967296) × (spelling (length_ones n) n ≡ bits_of k (l + n))
length-spelt {n} {c} {k} {l} h o form =
    let v = rw (sym o) at (length_ones_of n h) in
    let s = spelt c n k l (omega (arith, v.small)) v.below form.0 form.1 in
    (s.below, s.most, s.word, ap (λ j. spelling j n) (sym o) ∙ s.bits)
