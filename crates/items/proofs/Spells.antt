-- Writing from an index: what each item does to a spelling, one spelling after another, and the outcome of writing from it.
-- Assumes nothing.
use Prim.Native.Nat.{ℕ, zero, suc, ◌+◌, ◌-◌, ◌*◌, ◌≤◌, ◌<◌, min}
use mathlib.Core.Bool.{Bool, true, false}
use mathlib.Core.Path.{◌≡◌, refl, sym, ap, ◌∙◌}
use mathlib.Core.List.{List, [], ◌∷◌, ◌++◌, append_assoc}
use native.Mathlib.Omega.{arith}
use native.Mathlib.Nat.{zero-add, sub-zero}
use native.Mathlib.Decide.{dec_lt}
use lib.Dec.{leb}
use lib.IntN.{ℤ, pos}
use lib.ListN.{length, get_or, drop, length-append}
use lib.Seq.{drop-cons}
use borrow.Author.Tests.{lt-ltb, le-ltb, ne_eqb}
use Rattle.answer.specs.Numbers.{refusal_at}
use Rattle.item.specs.Code.{Code, allows, value_bits}
use Rattle.items.specs.Items.{Items, stop, ask, ◌then◌}
use Rattle.items.specs.Writing.{Writing, spelt, halted, behind, write_items, close_write, encode}
use Rattle.items.specs.Spell.{Spell, spelled, barred, counted, spell, following, next, close_spell}
use Rattle.items.proofs.Written.{write-sound}

drop_past : {A : Type 0} (l : List A) (i : ℕ) → length l ≤ i → drop i l ≡ []
drop_past [] zero h = refl
drop_past [] (suc i) h = refl
drop_past (x ∷ xs) zero h = absurd (omega arith)
drop_past (x ∷ xs) (suc i) h = drop_past xs i (omega arith)

-- no more values are left over than there were
left_le : (p : Items) (vs : List ℤ) (room i : ℕ) (b : List Bool) (left : List ℤ) → write_items p vs room i ≡ spelt b left → length left ≤ length vs
left_le p vs room i b left e =
    let s = write-sound p vs room i b left e in
    omega (arith, ap length s.split, length-append s.values left)

pub spell-stop : (vs : List ℤ) (room i : ℕ) → spell stop vs room i ≡ spelled [] i
unfolding spell
spell-stop vs room i =
    let e : i + (length (drop i vs) - length (drop i vs)) ≡ i = omega arith in
    ap (spelled []) e

-- a value that is missing
pub spell-missing : (c : Code) (k : ℤ → Items) (vs : List ℤ) (room i : ℕ) → length vs ≤ i → spell (ask c k) vs room i ≡ barred (refusal_at 12 i)
unfolding spell
spell-missing c k vs room i h = rw (drop_past vs i h)

-- the value at an index
module _ (c : Code) (k : ℤ → Items) (vs : List ℤ) (room i : ℕ) (v : ℤ) (inside : i < length vs) (at : get_or vs i (pos 0) ≡ v) where
  here : drop i vs ≡ v ∷ drop (suc i) vs
  here = drop-cons vs i (pos 0) inside ∙ ap (◌∷ drop (suc i) vs) at

  pub spell-wrong : allows c v ≡ false → spell (ask c k) vs room i ≡ barred (refusal_at 12 i)
  unfolding spell
  spell-wrong h = rw (here, h)

  pub spell-full : allows c v ≡ true → leb (length (value_bits c v)) room ≡ false → spell (ask c k) vs room i ≡ barred (refusal_at 8 i)
  unfolding spell
  spell-full h l = rw (here, h, l)

  pub spell-put : allows c v ≡ true → leb (length (value_bits c v)) room ≡ true
      → spell (ask c k) vs room i ≡ following (value_bits c v) (spell (k v) vs (room - length (value_bits c v)) (suc i))
  unfolding spell
  spell-put h l = rw (here, h, l) (go (write_items (k v) (drop (suc i) vs) (room - length (value_bits c v)) (suc i)) refl)
    where
      go : (w : Writing) → write_items (k v) (drop (suc i) vs) (room - length (value_bits c v)) (suc i) ≡ w
          → counted i (suc (length (drop (suc i) vs))) (behind (value_bits c v) w) ≡ following (value_bits c v) (counted (suc i) (length (drop (suc i) vs)) w)
      go (halted refusal) e = refl
      go (spelt b left) e =
          let m = left_le (k v) (drop (suc i) vs) (room - length (value_bits c v)) (suc i) b left e in
          let n : i + (suc (length (drop (suc i) vs)) - length left) ≡ suc i + (length (drop (suc i) vs) - length left) = omega arith in
          ap (spelled (value_bits c v ++ b)) n

-- what is spelled fits the room
abbrev pub Within : ℕ → Spell → Type 0
Within room (spelled b i) = length b ≤ room
Within room (barred refusal) = Unit {0}

pub spell_within : (p : Items) (vs : List ℤ) (room i : ℕ) → Within room (spell p vs room i)
unfolding spell
spell_within p vs room i = go (write_items p (drop i vs) room i) refl
  where
    go : (w : Writing) → write_items p (drop i vs) room i ≡ w → Within room (counted i (length (drop i vs)) w)
    go (halted refusal) e = tt
    go (spelt b left) e = (write-sound p (drop i vs) room i b left e).fits

-- ── one after another ──

following_none : (s : Spell) → following [] s ≡ s
following_none (spelled b i) = refl
following_none (barred refusal) = refl

following-following : (a b : List Bool) (s : Spell) → following a (following b s) ≡ following (a ++ b) s
following-following a b (spelled x i) = rw append_assoc
following-following a b (barred refusal) = refl

following_next : (a : List Bool) (room : ℕ) (s : Spell) (f : ℕ → ℕ → Spell) → following a (next (room - length a) s f) ≡ next room (following a s) f
following_next a room (barred refusal) f = refl
following_next a room (spelled b i) f =
    let e : room - length a - length b ≡ room - length (a ++ b) = omega (arith, length-append a b) in
    following-following a b (f (room - length a - length b) i) ∙ ap (λ r. following (a ++ b) (f r i)) e

-- one item, and what its value calls for, before the rest
ask-then : (c : Code) (k : ℤ → Items) (q : Items) (vs : List ℤ) (room i : ℕ)
    → ((v : ℤ) (room i : ℕ) → spell (k v then q) vs room i ≡ next room (spell (k v) vs room i) (spell q vs))
    → spell (ask c (λ v. k v then q)) vs room i ≡ next room (spell (ask c k) vs room i) (spell q vs)
ask-then c k q vs room i step = elim (dec_lt i (length vs)) [
  | no h ↦
      let past : length vs ≤ i = omega arith in
      spell-missing c (λ v. k v then q) vs room i past ∙ sym (ap (λ s. next room s (spell q vs)) (spell-missing c k vs room i past))
  | yes h ↦ go (get_or vs i (pos 0)) refl h (allows c (get_or vs i (pos 0))) refl (leb (length (value_bits c (get_or vs i (pos 0)))) room) refl
]
  where
    go : (v : ℤ) → get_or vs i (pos 0) ≡ v → i < length vs → (t : Bool) → allows c v ≡ t → (u : Bool) → leb (length (value_bits c v)) room ≡ u
        → spell (ask c (λ v. k v then q)) vs room i ≡ next room (spell (ask c k) vs room i) (spell q vs)
    go v at h false a u l = spell-wrong c (λ v. k v then q) vs room i v h at a ∙ sym (ap (λ s. next room s (spell q vs)) (spell-wrong c k vs room i v h at a))
    go v at h true a false l = spell-full c (λ v. k v then q) vs room i v h at a l ∙ sym (ap (λ s. next room s (spell q vs)) (spell-full c k vs room i v h at a l))
    go v at h true a true l =
        spell-put c (λ v. k v then q) vs room i v h at a l
        ∙ ap (following (value_bits c v)) (step v (room - length (value_bits c v)) (suc i))
        ∙ following_next (value_bits c v) room (spell (k v) vs (room - length (value_bits c v)) (suc i)) (spell q vs)
        ∙ sym (ap (λ s. next room s (spell q vs)) (spell-put c k vs room i v h at a l))

pub spell-then : (p q : Items) (vs : List ℤ) (room i : ℕ) → spell (p then q) vs room i ≡ next room (spell p vs room i) (spell q vs)
spell-then stop q vs room i =
    sym (ap (λ s. next room s (spell q vs)) (spell-stop vs room i) ∙ following_none (spell q vs (room - 0) i) ∙ ap (λ r. spell q vs r i) (sub-zero room))
spell-then (ask c k) q vs room i = ask-then c k q vs room i (λ v r j. spell-then (k v) q vs r j)

-- ── from the first value on ──

-- the outcome of writing, by the index after
pub encode-spell : (p : Items) (vs : List ℤ) (octets : ℕ) → encode p vs octets ≡ close_spell (length vs) octets (spell p vs (8 * min octets 65535) 0)
unfolding spell
encode-spell p vs octets = go octets (write_items p vs (8 * min octets 65535) 0) refl
  where
    go : (n : ℕ) (w : Writing) → write_items p vs (8 * min octets 65535) 0 ≡ w → close_write (length vs) n w ≡ close_spell (length vs) n (counted 0 (length vs) w)
    go n (halted refusal) e = refl
    go n (spelt b (v ∷ left)) e =
        let some : length vs - length (v ∷ left) < length vs = omega (arith, left_le p vs (8 * min octets 65535) 0 b (v ∷ left) e) in
        rw (zero-add, lt-ltb (length vs - length (v ∷ left)) (length vs) some)
    go zero (spelt b []) e = rw (zero-add, sub-zero, le-ltb (length vs) (length vs) (omega arith))
    go (suc n) (spelt b []) e = rw (zero-add, sub-zero, le-ltb (length vs) (length vs) (omega arith), ne_eqb (suc n) 0 (λ e. omega arith))
