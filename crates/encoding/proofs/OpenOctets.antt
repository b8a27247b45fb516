-- Open octets are octets but for a length of 0.
-- Assumes nothing.
use Prim.Native.Nat.{ℕ, zero, suc, ◌+◌, ◌*◌, min}
use mathlib.Core.Bool.{Bool, true, false, ◌&&◌, false≢true, and-eq-true_iff}
use mathlib.Core.Path.{◌≡◌, refl, sym, ap, ◌∙◌}
use mathlib.Core.Logic.{◌↔◌, ◌≢◌}
use mathlib.Core.List.{List, [], ◌∷◌}
use native.Mathlib.Omega.{arith}
use lib.Dec.{leb, ltb}
use lib.IntN.{ℤ, pos, negsuc, +ℤ_idl}
use lib.ListN.{length, take, drop}
use lib.Signed.{le_z}
use borrow.Author.Tests.{le-leb}
use Rattle.bits.specs.Bits.{number_of}
use Rattle.octets.specs.Numbers.{u16}
use Rattle.answer.specs.Numbers.{refusal_at}
use Rattle.item.specs.Code.{number, length_within, natural, allows, value_bits, Got, got, bad, provided, ones_up_to, least_of, decode_offset, decode_item, above}
use Rattle.item.proofs.Ranges.{item-ranges}
use Rattle.row.specs.Rows.{row_of, row_length, within}
use Rattle.rules.specs.Rules.{known_kind, numbers_in_bounds, references, has_branch}
use Rattle.items.specs.Items.{Items, ask, one, times, Allows, encoding_bits}
use Rattle.items.specs.Reading.{Reading, read_one, read_items}
use Rattle.items.specs.Writing.{Writing, unless, write_items}
use Rattle.encoding.specs.Rows.{row_items}
use Rattle.encoding.specs.OpenOctets.{unless_empty_read, unless_empty_written, OpenOctets}

-- ── an offset that is not 0 ──

abbrev not_zero : Got ℕ → Got ℕ
not_zero (got zero r) = bad 6
not_zero (got (suc n) r) = got (suc n) r
not_zero (bad n) = bad n

-- a length with octets behind it
abbrev not_none : ℤ → Bool
not_none (pos zero) = false
not_none (pos (suc n)) = true
not_none (negsuc n) = true

module _ (most : ℕ) where
  -- ── reading ──

  limits : (m : ℕ) (r : List Bool) → provided (leb 1 m && leb m most) 6 (got m r) ≡ not_zero (provided (leb 0 m && leb m most) 6 (got m r))
  limits zero r = go (leb 0 most)
    where
      go : (t : Bool) → bad 6 ≡ not_zero (provided t 6 (got zero r))
      go true = refl
      go false = refl
  limits (suc m) r = rw (le-leb 1 (suc m) (omega arith), le-leb 0 (suc m) (omega arith)) (go (leb (suc m) most))
    where
      go : (t : Bool) → provided t 6 (got (suc m) r) ≡ not_zero (provided t 6 (got (suc m) r))
      go true = refl
      go false = refl

  offsets : (b : List Bool) → decode_offset (length_within 1 most) b ≡ not_zero (decode_offset (length_within 0 most) b)
  offsets b =
      let c = ones_up_to 2 b in
      let d = drop (suc c) b in
      let m = number_of (take (7 * suc c) d) in
      go (leb 8 (length b)) (ltb c 2) (leb (7 * suc c) (length d)) (leb (least_of c) m) _ _ (limits m (drop (7 * suc c) d))
    where
      go : (s t u w : Bool) (x y : Got ℕ) → x ≡ not_zero y
          → provided s 2 (provided t 5 (provided u 2 (provided w 5 x))) ≡ not_zero (provided s 2 (provided t 5 (provided u 2 (provided w 5 y))))
      go false t u w x y e = refl
      go true false u w x y e = refl
      go true true false w x y e = refl
      go true true true false x y e = refl
      go true true true true x y e = e

  module _ (k : ℤ → Items) where
    abbrev read_rest : ℕ → ℤ → List Bool → ℕ → Reading
    read_rest at v b room = read_items (k v) b room (at + length (value_bits (length_within 0 most) v))

    read-open : (b : List Bool) (room at : ℕ)
        → read_items (ask (length_within 1 most) k) b room at ≡ unless_empty_read at (decode_item (length_within 0 most) b) (read_items (ask (length_within 0 most) k) b room at)
    read-open b room at = ap (λ x. read_one at (above (pos 0) x) room (read_rest at)) (offsets b) ∙ go (decode_offset (length_within 0 most) b)
      where
        go : (x : Got ℕ) → read_one at (above (pos 0) (not_zero x)) room (read_rest at) ≡ unless_empty_read at (above (pos 0) x) (read_one at (above (pos 0) x) room (read_rest at))
        go (got zero r) = refl
        go (got (suc n) r) = rw (+ℤ_idl (pos (suc n)))
        go (bad n) = refl

  -- ── lists and writing ──

  allows-open : (v : ℤ) → allows (length_within 1 most) v ≡ not_none v && allows (length_within 0 most) v
  allows-open v = item-ranges.lengths 1 most v ∙ go v ∙ sym (ap (not_none v &&◌) (item-ranges.lengths 0 most v))
    where
      go : (v : ℤ) → le_z (pos 1) v && le_z v (pos (min most 16383)) ≡ not_none v && (le_z (pos 0) v && le_z v (pos (min most 16383)))
      go (pos zero) = refl
      go (pos (suc n)) = rw (le-leb 1 (suc n) (omega arith), le-leb 0 (suc n) (omega arith))
      go (negsuc n) = refl

  none_is : (v : ℤ) → not_none v ≡ true → v ≢ pos 0
  none_is v h e = false≢true (sym (ap not_none e) ∙ h)

  is_none : (v : ℤ) → v ≢ pos 0 → not_none v ≡ true
  is_none (pos zero) h = absurd (h refl)
  is_none (pos (suc n)) h = refl
  is_none (negsuc n) h = refl

  module _ (k : ℤ → Items) where
    lists-open : (v : ℤ) (vs : List ℤ) → Allows (ask (length_within 1 most) k) (v ∷ vs) ↔ ((v ≢ pos 0) × Allows (ask (length_within 0 most) k) (v ∷ vs))
    lists-open v vs =
        let both = and-eq-true_iff (not_none v) (allows (length_within 0 most) v) in (
          λ h. let w = both.0 (sym (allows-open v) ∙ h.0) in (none_is v w.0, (w.1, h.1)),
          λ h. (allows-open v ∙ both.1 (is_none v h.0, h.1.0), h.1.1),
        )

    write-open : (vs : List ℤ) (room i : ℕ) → write_items (ask (length_within 1 most) k) vs room i ≡ unless_empty_written i vs (write_items (ask (length_within 0 most) k) vs room i)
    write-open [] room i = refl
    write-open (v ∷ vs) room i = rw (allows-open v) (go v (allows (length_within 0 most) v) _)
      where
        go : (v : ℤ) (t : Bool) (w : Writing) → unless (not_none v && t) (refusal_at 12 i) w ≡ unless_empty_written i (v ∷ vs) (unless t (refusal_at 12 i) w)
        go (pos zero) t w = refl
        go (pos (suc n)) t w = refl
        go (negsuc n) t w = refl

pub open-octets : (t : List ℕ) (o : ℕ) (g : ℕ → Items) → OpenOctets t o g
unfolding row_of row_length row_items known_kind references has_branch numbers_in_bounds within
open-octets t o g =
    let most = u16 t (o + 4) in
    let octets : ℤ → Items = λ v. times (natural v) (one (number (pos 0) 255)) in
    record {
      known = refl;
      long = refl;
      refers = refl;
      branch = refl;
      in_bounds = rw (le-leb 0 most (omega arith));
      lists = lists-open most octets;
      bits = same_bits;
      reads = read-open most octets;
      writes = write-open most octets;
    }
  where
    same_bits : (vs : List ℤ) → encoding_bits (row_items g (row_of t o 8)) vs ≡ encoding_bits (row_items g (row_of t o 7)) vs
    same_bits [] = refl
    same_bits (v ∷ vs) = refl
