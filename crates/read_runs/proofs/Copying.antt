-- A run of octets kept one after another, once over the kind of slice that they are kept in.
-- Assumes nothing.
use Prim.Native.Nat.{ℕ, zero, suc, ◌+◌, ◌-◌, ◌*◌, ◌/◌, ◌%◌, ◌^◌, ◌≤◌, ◌<◌}
use mathlib.Core.Bool.{Bool}
use mathlib.Core.Path.{◌≡◌, refl, sym, ap, ◌∙◌}
use mathlib.Core.List.{List, ◌∷◌, ◌++◌}
use native.Mathlib.Omega.{arith}
use native.Mathlib.Nat.{zero-add, suc-add, mod-lt, div-one}
use lib.IntN.{ℤ, pos}
use lib.ListN.{length, get_or, take, drop, length-map}
use lib.Seq.{drop-drop}
use mir.Syntax.{w64}
use mir.Val.{to_z}
use mir.Facts.{to_z_pos}
use Rattle.bits.specs.Bits.{number_of, pack, unpack}
use Rattle.bits.proofs.Bits.{length-pack}
use Rattle.window.specs.Window.{window_at}
use Rattle.window.proofs.InWindow.{number_in_five}
use Rattle.values.specs.Values.{store_all}
use Rattle.values.proofs.Stores.{store_all-append, store_all-out}
use Rattle.read_runs.specs.Runs.{octet_values}

-- the value of the octet at a place of bits
abbrev pub octet : List Bool → ℕ → ℤ
octet b p = pos (number_of (take 8 (drop p b)))

-- a number is that octet
abbrev pub IsOctetAt : List Bool → ℕ → ℕ → Type 0
IsOctetAt b p r = (r ≡ number_of (take 8 (drop p b))) × (r < 256)

-- its value, from the place as the code has that
pub octet_is : (b : List Bool) (p q r : ℕ) → IsOctetAt b p r → p ≡ q → to_z w64 r ≡ octet b q
octet_is b p q r e same = to_z_pos w64 {n = r} (omega (arith, e.1)) ∙ ap pos e.0 ∙ ap (octet b) same

-- octets, and those after them
octet_values-append : (n more : ℕ) (b : List Bool) → octet_values (n + more) b ≡ octet_values n b ++ octet_values more (drop (8 * n) b)
unfolding pack
octet_values-append zero more b = ap (λ (k : ℕ). octet_values k b) (zero-add more)
octet_values-append (suc n) more b =
    let e : 8 + 8 * n ≡ 8 * suc n = omega arith in
    ap (λ (k : ℕ). octet_values k b) (suc-add n more)
    ∙ ap (octet b 0 ∷◌) (octet_values-append n more (drop 8 b) ∙ ap (λ d. octet_values n (drop 8 b) ++ octet_values more d) (drop-drop (8 * n) 8 b ∙ ap (λ (k : ℕ). drop k b) e))

-- the bits b from start on are kept by put in a slice from the index at on
module _ {A : Type 0} (put : List A → ℕ → ℤ → List A) (b : List Bool) (start at : ℕ) where
  -- what the slice then holds
  abbrev pub kept : ℕ → List A → List A
  kept count l = store_all put l at (octet_values count (drop start b))

  pub kept_none : (l : List A) → l ≡ kept 0 l
  unfolding pack
  kept_none l = refl

  kept_four : (l : List A) (v₀ v₁ v₂ v₃ : ℤ) → v₀ ≡ octet b start → v₁ ≡ octet b (start + 8) → v₂ ≡ octet b (start + 16) → v₃ ≡ octet b (start + 24)
      → put (put (put (put l at v₀) (at + 1) v₁) (at + 2) v₂) (at + 3) v₃ ≡ kept 4 l
  unfolding pack
  kept_four l v₀ v₁ v₂ v₃ e₀ e₁ e₂ e₃ =
      let i₁ : at + 1 ≡ suc at = omega arith in
      let i₂ : at + 2 ≡ suc (suc at) = omega arith in
      let i₃ : at + 3 ≡ suc (suc (suc at)) = omega arith in
      let p₂ : start + 16 ≡ start + 8 + 8 = omega arith in
      let p₃ : start + 24 ≡ start + 8 + 8 + 8 = omega arith in
      rw (e₀, e₁, e₂, e₃, i₁, i₂, i₃, p₂, p₃) (simp drop-drop)

  -- l holds the first done of those that are kept in what was lent
  module _ (lent l : List A) (done : ℕ) (so_far : l ≡ kept done lent) where
    -- n more are kept in it, up to m, from the place p on
    pub kept_more : (n m p : ℕ) (l' : List A) → done + n ≡ m → p ≡ start + 8 * done → l' ≡ store_all put l (at + done) (octet_values n (drop p b)) → l' ≡ kept m lent
    kept_more n m p l' all place e =
        let d = drop start b in
        let first : length (octet_values done d) ≡ done = length-map (pack done d) pos ∙ length-pack done d in
        let whole : kept (done + n) lent ≡ store_all put (kept done lent) (at + done) (octet_values n (drop (8 * done) d)) =
        ap (store_all put lent at) (octet_values-append done n d)
        ∙ store_all-append put (octet_values done d) (octet_values n (drop (8 * done) d)) lent at
        ∙ ap (λ (k : ℕ). store_all put (kept done lent) (at + k) (octet_values n (drop (8 * done) d))) first in
        rw (e, so_far, place, ← all, ← drop-drop (8 * done) start b) (sym whole)

    pub kept_one : (v : ℤ) → v ≡ octet b (start + 8 * done) → put l (at + done) v ≡ kept (done + 1) lent
    unfolding pack
    kept_one v e = kept_more 1 (done + 1) (start + 8 * done) (put l (at + done) v) refl refl (ap (put l (at + done)) e)

    -- these are all of them, or there are no places for the others
    pub kept_all : (count : ℕ) → done ≤ count → (done < count → (j : ℕ) (v : ℤ) → at + done ≤ j → put l j v ≡ l) → l ≡ kept count lent
    kept_all count within out = rest (count - done) refl
      where
        rest : (n : ℕ) → count - done ≡ n → l ≡ kept count lent
        rest zero e = so_far ∙ ap (λ (k : ℕ). kept k lent) (omega arith)
        rest (suc n) e =
            kept_more (suc n) count (start + 8 * done) l (omega arith) refl
            (sym (store_all-out put l (at + done) (out (omega arith)) (octet_values (suc n) (drop (start + 8 * done) b))))

-- four octets that begin s bits into the octet i of the message m are kept by put in l from the index at on
module _ {A : Type 0} (put : List A → ℕ → ℤ → List A) (m : List ℕ) (i s at : ℕ) (l : List A) where
  abbrev place : ℕ → ℕ
  place n = 8 * (i + n) + s

  abbrev kept_as : (v₀ v₁ v₂ v₃ : ℕ) → Type 0
  kept_as v₀ v₁ v₂ v₃ =
      put (put (put (put l at (to_z w64 v₀)) (at + 1) (to_z w64 v₁)) (at + 2) (to_z w64 v₂)) (at + 3) (to_z w64 v₃) ≡ kept put (unpack m) (8 * i + s) at 4 l

  -- each read by itself
  pub four-read : (r₀ r₁ r₂ r₃ : ℕ) → IsOctetAt (unpack m) (8 * i + s) r₀ → IsOctetAt (unpack m) (place 1) r₁ → IsOctetAt (unpack m) (place 2) r₂
      → IsOctetAt (unpack m) (place 3) r₃ → kept_as r₀ r₁ r₂ r₃
  four-read r₀ r₁ r₂ r₃ e₀ e₁ e₂ e₃ =
      let b = unpack m in
      let start = 8 * i + s in
      kept_four put b start at l _ _ _ _ (octet_is b start start r₀ e₀ refl) (octet_is b (place 1) (start + 8) r₁ e₁ (omega arith))
      (octet_is b (place 2) (start + 16) r₂ e₂ (omega arith)) (octet_is b (place 3) (start + 24) r₃ e₃ (omega arith))

  -- cut out of the five that they lie in
  pub four-cut : ((j : ℕ) → get_or m j 0 < 256) → (five : ℕ) → five ≡ window_at m i → s < 8 → 8 * i + s + 32 ≤ 8 * length m → let w = five / 2 ^ (8 - s) in
      kept_as (w / 16777216 % 256) (w / 65536 % 256) (w / 256 % 256) (w % 256)
  four-cut octets five e within fits =
      let b = unpack m in
      let start = 8 * i + s in
      let w = five / 2 ^ (8 - s) in
      let cut : (n t q : ℕ) → n + t ≡ 24 → start + n ≡ q → to_z w64 (w / 2 ^ t % 256) ≡ octet b q =
      λ n t q all same. octet_is b (start + n) q (w / 2 ^ t % 256)
      (rw e (sym (number_in_five m octets i s n t within all (omega arith))), mod-lt _ (omega arith)) same in
      kept_four put b start at l _ _ _ _ (cut 0 24 start refl (omega arith)) (cut 8 16 (start + 8) refl refl) (cut 16 8 (start + 16) refl refl)
      (ap (λ (k : ℕ). to_z w64 (k % 256)) (sym (div-one w)) ∙ cut 24 0 (start + 24) refl refl)
