-- Without the marks it is what the row asks for, under any table that obeys the rules: no row asks for a mark.
-- Assumes nothing.
use Prim.Native.Nat.{ℕ, zero, suc}
use mathlib.Core.Bool.{Bool, true, false, cond, and-eq-true_iff}
use mathlib.Core.Path.{◌≡◌, refl, sym, ap, ap₂, ◌∙◌, fun_ext}
use mathlib.Core.List.{List, [], ◌∷◌, map}
use native.Mathlib.Omega.{arith}
use lib.Dec.{leb, eqb}
use lib.IntN.{ℤ, pos}
use borrow.Author.Tests.{leb-true}
use Rattle.octets.specs.Numbers.{there}
use Rattle.item.specs.Code.{number, length_within, index, natural}
use Rattle.row.specs.Offsets.{earlier}
use Rattle.row.specs.Rows.{within, Row, Number, Variable, FixedRun, CountedRun, Record, Choice, Octets, Unknown, row_at}
use Rattle.row.proofs.Offsets.{earlier_is, earlier-out, by_offset_is}
use Rattle.rules.specs.Rules.{numbers_in_bounds, references, All, Earlier, Starts, Obeys}
use Rattle.items.specs.Items.{Items, stop, ask, ◌then◌, one, times}
use Rattle.encoding.specs.Rows.{presence, fields, row_items, items}
use Rattle.encoding.proofs.RowItems.{items-row}
use Rattle.visits.specs.Visits.{mark, is_mark, marked, unmarked}
use Rattle.encoding.proofs.References.{by_row, all_map, all_branches}

-- the length of octets is no mark
pub no-mark : (least most : ℕ) → within least 16383 most ≡ true → is_mark (length_within least most) ≡ false
unfolding within
no-mark zero most h = refl
no-mark (suc least) zero h = absurd (omega (arith, leb-true (suc least) 0 ((and-eq-true_iff (leb (suc least) 0) (leb 0 16383)).0 h).0))
no-mark (suc least) (suc most) h = refl

unmarked-then : (p q : Items) → unmarked (p then q) ≡ unmarked p then unmarked q
unmarked-then stop q = refl
unmarked-then (ask c k) q = go (is_mark c) (λ v. unmarked-then (k v) q)
  where
    go : (b : Bool) → ((v : ℤ) → unmarked (k v then q) ≡ unmarked (k v) then unmarked q)
        → cond b (unmarked (k (pos 0) then q)) (ask c (λ v. unmarked (k v then q))) ≡ cond b (unmarked (k (pos 0))) (ask c (λ v. unmarked (k v))) then unmarked q
    go true ih = ih (pos 0)
    go false ih = ap (ask c) (fun_ext ih)

unmarked-times : (n : ℕ) (p q : Items) → unmarked p ≡ q → unmarked (times n p) ≡ times n q
unfolding times
unmarked-times zero p q e = refl
unmarked-times (suc n) p q e = unmarked-then p (times n p) ∙ ap₂ ◌then◌ e (unmarked-times n p q e)

unmarked-presence : (flags : List ℕ) (k : List Bool → Items) → unmarked (presence flags k) ≡ presence flags (λ ps. unmarked (k ps))
unfolding presence
unmarked-presence [] k = refl
unmarked-presence (zero ∷ flags) k = unmarked-presence flags (λ ps. k (true ∷ ps))
unmarked-presence (suc f ∷ flags) k = ap (ask (number (pos 0) 1)) (fun_ext (λ v. unmarked-presence flags (λ ps. k (eqb (natural v) 1 ∷ ps))))

-- g and f give what the rows before a row ask for, with marks and without
module _ (g f : ℕ → Items) where
  abbrev Same : ℕ → Type 0
  Same r = unmarked (g r) ≡ f r

  unmarked-fields : (rs : List ℕ) → All Same rs → (ps : List Bool) → unmarked (fields g rs ps) ≡ fields f rs ps
  unfolding fields
  unmarked-fields [] h ps = refl
  unmarked-fields (r ∷ rs) h [] = refl
  unmarked-fields (r ∷ rs) h (true ∷ ps) = unmarked-then (g r) (fields g rs ps) ∙ ap₂ ◌then◌ h.0 (unmarked-fields rs h.1 ps)
  unmarked-fields (r ∷ rs) h (false ∷ ps) = unmarked-fields rs h.1 ps

  unmarked-row : (row : Row) → numbers_in_bounds row ≡ true → All Same (references row) → Same 65535 → unmarked (row_items g row) ≡ row_items f row
  unfolding row_items one numbers_in_bounds references
  unmarked-row (Number low span) m h z = refl
  unmarked-row Variable m h z = refl
  unmarked-row (FixedRun count r) m h z = unmarked-times count (g r) (f r) h.0
  unmarked-row (CountedRun most r) m h z = ap (ask (length_within 0 most)) (fun_ext (λ v. unmarked-times (natural v) (g r) (f r) h.0))
  unmarked-row (Record rs flags) m h z = unmarked-presence flags (fields g rs) ∙ ap (presence flags) (fun_ext (unmarked-fields rs h))
  unmarked-row (Choice rs) m h z = ap (ask (index (map there rs))) (fun_ext (λ v. all_branches Same rs h z (natural v)))
  unmarked-row (Octets least most) m h z =
      rw (no-mark least most m)
      (ap (ask (length_within least most)) (fun_ext (λ v. unmarked-times (natural v) (one (number (pos 0) 255)) (one (number (pos 0) 255)) refl)))
  unmarked-row Unknown m h z = refl

module _ (t : List ℕ) where
  pub marked_row : (o : ℕ) → marked t o ≡ ask mark (λ v. row_items (earlier stop o (marked t)) (row_at t o))
  unfolding marked
  marked_row o = by_offset_is stop (λ o g. ask mark (λ v. row_items g (row_at t o))) o

  module _ (h : Obeys t) where
    unmarked_at : (o : ℕ) → Starts t o → ((r : ℕ) → Earlier t o r → unmarked (marked t r) ≡ items t r) → unmarked (marked t o) ≡ items t o
    unfolding mark
    unmarked_at o s ih =
        let x = h.rows o s in
        let e : (r : ℕ) → Earlier t o r → unmarked (earlier stop o (marked t) r) ≡ earlier stop o (items t) r =
        λ r l. ap unmarked (earlier_is stop o (marked t) r l.1) ∙ (ih r l ∙ sym (earlier_is stop o (items t) r l.1)) in
        let z : unmarked (earlier stop o (marked t) 65535) ≡ earlier stop o (items t) 65535 =
        ap unmarked (earlier-out stop o (marked t) 65535 (omega (arith, h.most, s.1))) ∙ sym (earlier-out stop o (items t) 65535 (omega (arith, h.most, s.1))) in
        ap unmarked (marked_row o)
        ∙ unmarked-row (earlier stop o (marked t)) (earlier stop o (items t)) (row_at t o) x.numbers_right (all_map e (references (row_at t o)) x.references_earlier) z
        ∙ sym (items-row t o)

    pub unmarked_is : (o : ℕ) → Starts t o → unmarked (marked t o) ≡ items t o
    unmarked_is = by_row t (λ o. unmarked (marked t o) ≡ items t o) unmarked_at
