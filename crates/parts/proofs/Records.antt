-- A record's presence bits, which become the marks of a mask; and its fields, one after another by their marks.
-- Assumes nothing.
use Prim.Native.Nat.{ℕ, zero, suc, ◌+◌, ◌*◌, ◌/◌, ◌%◌, ◌^◌, ◌≤◌, ◌<◌}
use mathlib.Core.Bool.{Bool, true, false}
use mathlib.Core.Path.{◌≡◌, refl, sym, ap, ap₂, ◌∙◌, fun_ext}
use mathlib.Core.Logic.{◌≢◌}
use mathlib.Core.List.{List, [], ◌∷◌, ◌++◌, append_assoc, append-nil}
use native.Mathlib.Omega.{arith}
use native.Mathlib.Nat.{lt_of_lt_of_le}
use native.Mathlib.Numerals.{add-one}
use lib.Dec.{eqb}
use lib.IntN.{pos}
use lib.ListN.{get_or, drop}
use lib.Pow.{pow_mono}
use lib.Seq.{drop-cons, drop-length}
use Rattle.octets.specs.Numbers.{u16, u16s}
use Rattle.octets.proofs.Numbers.{length-u16s, get_d_u16s}
use Rattle.bits.specs.Bits.{bits_of}
use Rattle.bits.proofs.Bits.{length-bits_of, bits_of-append}
use Rattle.item.specs.Code.{number, natural}
use Rattle.row.specs.Rows.{Record, row_at}
use Rattle.rules.specs.Rules.{Obeys, Starts}
use Rattle.table.proofs.Obeyed.{record-row}
use Rattle.items.specs.Items.{Items, stop, ask, ◌then◌}
use Rattle.encoding.specs.Rows.{presence, fields, row_items, items}
use Rattle.encoding.proofs.RowItems.{items-record}
use Rattle.parts.specs.Parts.{fields_of, marked_fields, field_if}

-- ── presence bits ──

-- a field that is always there asks for nothing
pub presence-always : (flag : ℕ) (flags : List ℕ) (k : List Bool → Items) → flag ≡ 0 → presence (flag ∷ flags) k ≡ presence flags (λ ps. k (true ∷ ps))
unfolding presence
presence-always flag flags k e = rw e

-- an optional one for its bit
pub presence-optional : (flag : ℕ) (flags : List ℕ) (k : List Bool → Items) → flag ≢ 0
    → presence (flag ∷ flags) k ≡ ask (number (pos 0) 1) (λ v. presence flags (λ ps. k (eqb (natural v) 1 ∷ ps)))
unfolding presence
presence-optional zero flags k n = absurd (n refl)
presence-optional (suc f) flags k n = refl

-- the marks of the fields up to one more
marks_more : (i mask marked : ℕ) → mask < 2 ^ i → marked / 2 ≡ mask → bits_of (i + 1) marked ≡ bits_of i mask ++ (eqb (marked % 2) 1 ∷ [])
unfolding bits_of
marks_more i mask marked h e = go (marked % 2) refl
  where
    split : (b : ℕ) → marked % 2 ≡ b → marked ≡ mask * 2 ^ 1 + b
    split b q = omega arith

    go : (b : ℕ) → marked % 2 ≡ b → bits_of (i + 1) marked ≡ bits_of i mask ++ (eqb b 1 ∷ [])
    go zero q = ap (bits_of (i + 1)) (split 0 q) ∙ bits_of-append i 1 mask 0 h (omega arith)
    go (suc zero) q = ap (bits_of (i + 1)) (split 1 q) ∙ bits_of-append i 1 mask 1 h (omega arith)
    go (suc (suc b)) q = absurd (omega arith)

module _ (t : List ℕ) (at n : ℕ) (k : List Bool → Items) where
  abbrev flags : List ℕ
  flags = u16s t at 4 n

  -- what is left of a record after i flags
  abbrev pub after_marks : ℕ → ℕ → Items
  after_marks i mask = presence (drop i flags) (λ ps. k (bits_of i mask ++ ps))

  pub marks_none : after_marks 0 0 ≡ presence flags k
  unfolding bits_of
  marks_none = refl

  pub marks_all : (i mask : ℕ) → i ≡ n → after_marks i mask ≡ k (bits_of n mask)
  unfolding presence
  marks_all i mask e =
      let d : drop i flags ≡ [] = ap (λ m. drop m flags) (e ∙ sym (length-u16s t 4 at n)) ∙ drop-length flags in
      rw (d, e, append-nil)

  -- one field more
  pub marks-step : (i mask marked : ℕ) → i < n → mask < 2 ^ i → marked / 2 ≡ mask
      → (after_marks i mask ≡ presence (u16 t (at + 4 * i) ∷ drop (suc i) flags) (λ ps. k (bits_of i mask ++ ps)))
      × (presence (drop (suc i) flags) (λ ps. k (bits_of i mask ++ (eqb (marked % 2) 1 ∷ ps))) ≡ after_marks (i + 1) marked)
  marks-step i mask marked h hm e =
      let d : drop i flags ≡ u16 t (at + 4 * i) ∷ drop (suc i) flags =
      drop-cons flags i 0 (rw (length-u16s t 4 at n) h) ∙ ap (◌∷ drop (suc i) flags) (get_d_u16s t 4 at n i 0 h) in
      let b : (ps : List Bool) → bits_of i mask ++ (eqb (marked % 2) 1 ∷ ps) ≡ bits_of (i + 1) marked ++ ps =
      λ ps. sym (ap (◌++ ps) (marks_more i mask marked hm e) ∙ append_assoc (bits_of i mask) (eqb (marked % 2) 1 ∷ []) ps) in (
        ap (λ fs. presence fs (λ ps. k (bits_of i mask ++ ps))) d,
        ap₂ (λ fs f. presence fs f) (ap (λ m. drop m flags) (sym (add-one i))) (fun_ext (λ ps. ap k (b ps))),
      )

module _ (g : ℕ → Items) (t : List ℕ) (o : ℕ) where
  -- what is left of the record at o after the presence bits of i fields, which gave that mask
  abbrev pub left_after : ℕ → ℕ → Items
  left_after i mask = after_marks t (o + 8) (u16 t (o + 4)) (fields_of g t o) i mask

  pub record-start : row_at t o ≡ Record (u16s t (o + 6) 4 (u16 t (o + 4))) (u16s t (o + 8) 4 (u16 t (o + 4))) → row_items g (row_at t o) ≡ left_after 0 0
  unfolding row_items
  record-start is = ap (row_items g) is ∙ sym (marks_none t (o + 8) (u16 t (o + 4)) (fields_of g t o))

  pub record_end : (i mask : ℕ) → i ≡ u16 t (o + 4) → left_after i mask ≡ marked_fields g t o mask
  unfolding marked_fields
  record_end i mask e = marks_all t (o + 8) (u16 t (o + 4)) (fields_of g t o) i mask e

  -- the flags behind that of field i, and what the marks up to it leave
  abbrev pub flags_behind : ℕ → List ℕ
  flags_behind i = drop (suc i) (u16s t (o + 8) 4 (u16 t (o + 4)))

  abbrev pub fields_behind : ℕ → ℕ → List Bool → Items
  fields_behind i mask ps = fields_of g t o (bits_of i mask ++ ps)

  -- one flag more: what was left begins with it
  pub record-flag : (i flag mask : ℕ) → i < u16 t (o + 4) → mask < 2 ^ i → flag ≡ u16 t (o + 8 + 4 * i)
      → left_after i mask ≡ presence (flag ∷ flags_behind i) (fields_behind i mask)
  record-flag i flag mask l hm ef =
      (marks-step t (o + 8) (u16 t (o + 4)) (fields_of g t o) i mask (mask * 2) l hm (omega arith)).0
      ∙ ap (λ x. presence (x ∷ flags_behind i) (fields_behind i mask)) (sym ef)

  -- and its mark made leaves the rest
  pub record-marked : (i mask marked : ℕ) → i < u16 t (o + 4) → mask < 2 ^ i → marked / 2 ≡ mask
      → presence (flags_behind i) (λ ps. fields_behind i mask (eqb (marked % 2) 1 ∷ ps)) ≡ left_after (i + 1) marked
  record-marked i mask marked l hm em = (marks-step t (o + 8) (u16 t (o + 4)) (fields_of g t o) i mask marked l hm em).1

-- under the rules the rows that it refers to are the table's own
pub record_known : {t : List ℕ} {o : ℕ} → Obeys t → Starts t o → u16 t (o + 2) ≡ 5 → items t o ≡ left_after (items t) t o 0 0
record_known {t} {o} h s k =
    let row = record-row h s k in
    items-record t o _ _ row.is row.all ∙ sym (marks_none t (o + 8) (u16 t (o + 4)) (fields_of (items t) t o))

-- a mask of fewer than 32 marks has room for one more
pub mask_lt : (i mask : ℕ) → mask < 2 ^ i → i < 32 → mask < 2147483648
mask_lt i mask h l = let small : i ≤ 31 = omega arith in lt_of_lt_of_le h (pow_mono small)

pub marked_lt : (i mask marked : ℕ) → mask < 2 ^ i → marked / 2 ≡ mask → marked < 2 ^ (i + 1)
marked_lt i mask marked h e = rw (add-one i) (omega arith)

-- ── fields ──

fields-cons : (g : ℕ → Items) (r : ℕ) (rs : List ℕ) (b : Bool) (ps : List Bool) → fields g (r ∷ rs) (b ∷ ps) ≡ field_if b (g r) then fields g rs ps
unfolding fields
fields-cons g r rs true ps = refl
fields-cons g r rs false ps = refl

module _ (g : ℕ → Items) (t : List ℕ) (o mask : ℕ) where
  -- what is left of the fields from the i-th on
  abbrev pub fields_from : ℕ → Items
  fields_from i = fields g (drop i (u16s t (o + 6) 4 (u16 t (o + 4)))) (drop i (bits_of (u16 t (o + 4)) mask))

  pub fields-start : marked_fields g t o mask ≡ fields_from 0
  unfolding marked_fields
  fields-start = refl

  pub fields_end : (i : ℕ) → i ≡ u16 t (o + 4) → fields_from i ≡ stop
  unfolding fields
  fields_end i e =
      let rs = u16s t (o + 6) 4 (u16 t (o + 4)) in
      let d : drop i rs ≡ [] = ap (λ m. drop m rs) (e ∙ sym (length-u16s t 4 (o + 6) (u16 t (o + 4)))) ∙ drop-length rs in
      rw d

  pub fields_next : (i row : ℕ) (present : Bool) → i < u16 t (o + 4) → row ≡ u16 t (o + 6 + 4 * i) → present ≡ get_or (bits_of (u16 t (o + 4)) mask) i false
      → fields_from i ≡ field_if present (g row) then fields_from (i + 1)
  fields_next i row present l er ep =
      let m = u16 t (o + 4) in
      let rs = u16s t (o + 6) 4 m in
      let ps = bits_of m mask in
      let dr : drop i rs ≡ row ∷ drop (suc i) rs = drop-cons rs i 0 (rw (length-u16s t 4 (o + 6) m) l) ∙ ap (◌∷ drop (suc i) rs) (get_d_u16s t 4 (o + 6) m i 0 l ∙ sym er) in
      let dp : drop i ps ≡ present ∷ drop (suc i) ps = drop-cons ps i false (rw (length-bits_of m mask) l) ∙ ap (◌∷ drop (suc i) ps) (sym ep) in
      ap₂ (fields g) dr dp ∙ fields-cons g row (drop (suc i) rs) present (drop (suc i) ps)
      ∙ ap (λ n. field_if present (g row) then fields g (drop n rs) (drop n ps)) (sym (add-one i))
