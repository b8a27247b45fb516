-- The tests before an LM's values, as the code makes them on signed numbers, and what they leave of its outcome.
-- Assumes nothing.
use Prim.Native.Nat.{ℕ, ◌≤◌, ◌<◌, ◌^◌}
use mathlib.Core.Bool.{Bool, true, false, true≢false}
use mathlib.Core.Path.{◌≡◌, refl, sym, ap, ◌∙◌}
use mathlib.Core.List.{List, []}
use native.Mathlib.Omega.{arith}
use lib.Dec.{leb, eqb}
use lib.IntN.{ℤ, pos, negsuc}
use lib.ListN.{length, get_or}
use lib.Signed.{mag, lt_z}
use mir.Syntax.{w64}
use mir.Val.{to_z, of_z, hbits}
use mir.Facts.{to_z-of_z}
use borrow.Author.Tests.{le-leb, lt-leb, ltb-true, ltb-false, ne_eqb}
use Rattle.answer.specs.Numbers.{refusal_at, accepted, refused, answer_if}
use Rattle.answer.proofs.Numbers.{answer_if-accepted}
use Rattle.answer.specs.declared.Counts.{Counts}
use Rattle.answer.specs.declared.Refusal.{Refusal}
use Rattle.item.specs.Code.{of_natural}
use Rattle.encoding.specs.Rows.{asks}
use Rattle.items.specs.Writing.{encode, write_answer, write_octets}
use Rattle.builtin.specs.Tables.{lm}
use Rattle.lm.specs.ByName.{write_if, write_lm_outcome}
use Rattle.lm_guard.specs.Tested.{lm_list_tested}
use Rattle.std.proofs.Common.{Ok, Err}

module _ (z : ℤ) (small : mag z < 2 ^ hbits w64) where
  held : to_z w64 (of_z w64 z) ≡ z
  held = to_z-of_z {w = w64} (record { sfits = small })

  -- the machine's 3 is 3
  pub version-three : of_z w64 z ≡ 3 → of_natural (λ n. eqb n 3) z ≡ true
  version-three e = let q : z ≡ pos 3 = sym held ∙ ap (to_z w64) e in rw q

  pub version_other : (of_z w64 z ≡ 3 → ⊥) → of_natural (λ n. eqb n 3) z ≡ false
  version_other f = go z refl
    where
      go : (y : ℤ) → z ≡ y → of_natural (λ n. eqb n 3) y ≡ false
      go (pos n) e = ne_eqb n 3 (λ q. f (ap (of_z w64) (e ∙ ap pos q)))
      go (negsuc n) e = refl

  pub subtype-negative : lt_z (to_z w64 (of_z w64 z)) (pos 0) ≡ true → of_natural (λ n. leb n 2) z ≡ false
  subtype-negative h = go z (ap (λ (x : ℤ). lt_z x (pos 0)) (sym held) ∙ h)
    where
      go : (y : ℤ) → lt_z y (pos 0) ≡ true → of_natural (λ n. leb n 2) y ≡ false
      go (pos n) h = absurd (omega (arith, ltb-true n 0 h))
      go (negsuc n) h = refl

  pub subtype-high : lt_z (pos 2) (to_z w64 (of_z w64 z)) ≡ true → of_natural (λ n. leb n 2) z ≡ false
  subtype-high h = go z (ap (lt_z (pos 2)) (sym held) ∙ h)
    where
      go : (y : ℤ) → lt_z (pos 2) y ≡ true → of_natural (λ n. leb n 2) y ≡ false
      go (pos n) h = lt-leb n 2 (ltb-true 2 n h)
      go (negsuc n) h = refl

  pub subtype-fine : lt_z (to_z w64 (of_z w64 z)) (pos 0) ≡ false → lt_z (pos 2) (to_z w64 (of_z w64 z)) ≡ false → of_natural (λ n. leb n 2) z ≡ true
  subtype-fine h k = go z (ap (λ (x : ℤ). lt_z x (pos 0)) (sym held) ∙ h) (ap (lt_z (pos 2)) (sym held) ∙ k)
    where
      go : (y : ℤ) → lt_z y (pos 0) ≡ false → lt_z (pos 2) y ≡ false → of_natural (λ n. leb n 2) y ≡ true
      go (pos n) h k = le-leb n 2 (ltb-false 2 n k)
      go (negsuc n) h k = absurd (true≢false h)

module _ (vs : List ℤ) where
  pub list-short : length vs < 3 → refused 12 (length vs) ≡ lm_list_tested vs
  unfolding lm_list_tested
  list-short h = rw (lt-leb 3 (length vs) h)

  module _ (long : 3 ≤ length vs) where
    pub list-version : of_natural (λ n. eqb n 3) (get_or vs 2 (pos 0)) ≡ false → refused 10 2 ≡ lm_list_tested vs
    unfolding lm_list_tested
    list-version h = rw (le-leb 3 (length vs) long, h)

    pub list-subtype : of_natural (λ n. eqb n 3) (get_or vs 2 (pos 0)) ≡ true → of_natural (λ n. leb n 2) (get_or vs 0 (pos 0)) ≡ false → refused 11 0 ≡ lm_list_tested vs
    unfolding lm_list_tested
    list-subtype h k = rw (le-leb 3 (length vs) long, h, k)

    pub list-fine : of_natural (λ n. eqb n 3) (get_or vs 2 (pos 0)) ≡ true → of_natural (λ n. leb n 2) (get_or vs 0 (pos 0)) ≡ true → accepted 0 0 0 ≡ lm_list_tested vs
    unfolding lm_list_tested
    list-fine h k = rw (le-leb 3 (length vs) long, h, k)

  -- what passed them has the outcome of the table
  pub list-passed : (cap : ℕ) (counts : Counts) → lm_list_tested vs ≡ Ok counts → write_lm_outcome vs cap ≡ encode (asks lm) vs cap
  unfolding lm_list_tested write_lm_outcome
  list-passed cap counts e =
      let a = answer_if-accepted (leb 3 (length vs)) (refusal_at 12 (length vs)) _ counts e in
      let b = answer_if-accepted (of_natural (λ n. eqb n 3) (get_or vs 2 (pos 0))) (refusal_at 10 2) _ counts a.1 in
      let c = answer_if-accepted (of_natural (λ n. leb n 2) (get_or vs 0 (pos 0))) (refusal_at 11 0) _ counts b.1 in
      rw (a.0, b.0, c.0)

  -- what one of them refused has that refusal
  pub list-refused : (cap : ℕ) (refusal : Refusal) → lm_list_tested vs ≡ Err refusal
      → (Err refusal ≡ write_answer (write_lm_outcome vs cap)) × (write_octets (write_lm_outcome vs cap) ≡ [])
  unfolding lm_list_tested write_lm_outcome
  list-refused cap refusal e = go (leb 3 (length vs)) (of_natural (λ n. eqb n 3) (get_or vs 2 (pos 0))) (of_natural (λ n. leb n 2) (get_or vs 0 (pos 0))) e
    where
      go : (a b c : Bool) → answer_if a (refusal_at 12 (length vs)) (answer_if b (refusal_at 10 2) (answer_if c (refusal_at 11 0) (accepted 0 0 0))) ≡ Err refusal
          → (Err refusal ≡ write_answer (write_if a (refusal_at 12 (length vs)) (write_if b (refusal_at 10 2) (write_if c (refusal_at 11 0) (encode (asks lm) vs cap)))))
          × (write_octets (write_if a (refusal_at 12 (length vs)) (write_if b (refusal_at 10 2) (write_if c (refusal_at 11 0) (encode (asks lm) vs cap)))) ≡ [])
      go false b c e = (sym e, refl)
      go true false c e = (sym e, refl)
      go true true false e = (sym e, refl)
      go true true true e = let z : ◌≡◌ {A = ℕ} 0 1 = cc in absurd (omega arith)
