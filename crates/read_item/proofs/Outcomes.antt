-- The outcome of reading each kind of item, case by case as the code comes to it.
use Prim.Native.Nat.{ℕ, suc, ◌+◌, ◌-◌, ◌*◌, ◌^◌, ◌≤◌, ◌<◌, min}
use mathlib.Core.Bool.{Bool, true, false, cond, ◌&&◌}
use mathlib.Core.Path.{◌≡◌, refl, sym, ap, ap₂, ◌∙◌}
use mathlib.Core.List.{List}
use native.Mathlib.Nat.{zero-add}
use native.Mathlib.Omega.{arith}
use lib.Dec.{leb}
use lib.IntN.{ℤ, pos, ◌+ℤ◌}
use lib.ListN.{length, take, drop, get_or, length-append, length-drop}
use lib.Seq.{drop-drop}
use borrow.Author.Tests.{leb-true, leb-false, le-leb, lt-leb, lt-ltb, le-ltb}
use Rattle.bits.specs.Bits.{number_of, bits_of, width, unpack}
use Rattle.bits.specs.Access.{place_at, fetched}
use Rattle.bits.specs.declared.BitPlace.{BitPlace}
use Rattle.bits.proofs.Bits.{number_of-take_lt, length-unpack}
use Rattle.answer.specs.Numbers.{refusal_at, message_ends, above_span, no_branch, bad_length, outside_limits, bad_variable}
use Rattle.answer.specs.declared.Refusal.{Refusal}
use Rattle.item.specs.Code.{Code, number, variable, length_within, index, base, least_of, index_width, value_bits, Got, got, bad, provided, bit_field, octet_field, ones_up_to, decode_offset, above, decode_item}
use Rattle.item.specs.Answers.{item_of, Item}
use Rattle.read_item.specs.Steps.{front_of, front_read, bounded_length}
use Rattle.item.specs.Steps.{leading_worth}
use Rattle.item.proofs.Returned.{ok_or-Ok, ok_or-Err}
use Rattle.item.proofs.CodeLaws.{decode_item-sound, base-top}
use Rattle.item.proofs.Leading.{ones-front, ones-fewer, number_of-spelt}
use Rattle.std.proofs.Common.{Ok, Err, Option, Some, None}

-- ── the first bits ──

-- what a number of the first k bits says
pub record Front (b : List Bool) (p k n : ℕ) (q : BitPlace) : Type 0 where
  pub inside : k ≤ length b
  pub spells : number_of (take k b) ≡ n
  pub after : place_at (p + k) ≡ q
  pub below : n < 2 ^ k

module _ (b : List Bool) (p k : ℕ) where
  pub front_inside : k ≤ length b → front_of b p k ≡ Some (number_of (take k b), place_at (p + k))
  front_inside h = rw (le-leb k (length b) h)

  pub front_past_end : length b < k → front_of b p k ≡ None
  front_past_end h = rw (lt-leb k (length b) h)

  pub front-Short : front_of b p k ≡ None → length b < k
  front-Short e = go (leb k (length b)) refl e
    where
      go : (t : Bool) → leb k (length b) ≡ t → cond {A = Option (ℕ × BitPlace)} t (Some (number_of (take k b), place_at (p + k))) None ≡ None → length b < k
      go true l e = let z : ◌≡◌ {A = ℕ} 0 1 = cc in absurd (omega arith)
      go false l e = leb-false k (length b) l

  pub front-Bits : {n : ℕ} {q : BitPlace} → front_of b p k ≡ Some (n, q) → Front b p k n q
  front-Bits {n} {q} e = go (leb k (length b)) refl e
    where
      go : (t : Bool) → leb k (length b) ≡ t → cond {A = Option (ℕ × BitPlace)} t (Some (number_of (take k b), place_at (p + k))) None ≡ Some (n, q) → Front b p k n q
      go true l e =
          let both : ◌≡◌ {A = ℕ × BitPlace} (number_of (take k b), place_at (p + k)) (n, q) = cc in
          let s : number_of (take k b) ≡ n = ap (λ (x : ℕ × BitPlace). x.0) both in
          record {
            inside = leb-true k (length b) l;
            spells = s;
            after = ap (λ (x : ℕ × BitPlace). x.1) both;
            below = rw s at (number_of-take_lt k k b (omega arith));
          }
      go false l e = let z : ◌≡◌ {A = ℕ} 0 1 = cc in absurd (omega arith)

-- as the code answers, where they are there and where not
module _ (b : List Bool) (p k : ℕ) where
  pub front_there : {x : ℕ × BitPlace} → front_of b p k ≡ Some x → Ok x ≡ front_read b p k
  front_there e = rw e

  pub front_missing : front_of b p k ≡ None → Err (refusal_at message_ends p) ≡ front_read b p k
  front_missing e = rw e

  pub front-Ok : {x : ℕ × BitPlace} → front_read b p k ≡ Ok x → front_of b p k ≡ Some x
  front-Ok e = ok_or-Ok (front_of b p k) (refusal_at message_ends p) e

  pub front-Err : {e : Refusal} → front_read b p k ≡ Err e → (front_of b p k ≡ None) × (refusal_at message_ends p ≡ e)
  front-Err e = ok_or-Err (front_of b p k) (refusal_at message_ends p) e

-- a fetch is of the first bits, but for no bits at a place past the end
pub fetched-front : (m : List ℕ) (p k : ℕ) → 0 < k → fetched m p k ≡ front_of (drop p (unpack m)) p k
fetched-front m p k h = go (leb (p + k) (8 * length m)) refl
  where
    go : (t : Bool) → leb (p + k) (8 * length m) ≡ t
        → cond t (Some (number_of (take k (drop p (unpack m))), place_at (p + k))) None ≡ front_of (drop p (unpack m)) p k
    go true e =
        let l = leb-true (p + k) (8 * length m) e in
        sym (front_inside (drop p (unpack m)) p k (rw (length-drop, length-unpack) (omega arith)))
    go false e =
        let l = leb-false (p + k) (8 * length m) e in
        sym (front_past_end (drop p (unpack m)) p k (rw (length-drop, length-unpack) (omega arith)))

-- ── a reading as the code answers it ──

pub item_refused : (c : Code) (b : List Bool) (p : ℕ) {n : ℕ} → decode_item c b ≡ bad n → item_of c p (decode_item c b) ≡ Err (refusal_at n p)
item_refused c b p e = rw e

-- the place after an item follows from what is left of the bits
pub item-read : (c : Code) (b : List Bool) (p k : ℕ) {v : ℤ} {q : BitPlace}
    → decode_item c b ≡ got v (drop k b) → k ≤ length b → place_at (p + k) ≡ q → item_of c p (decode_item c b) ≡ Ok (v, q)
item-read c b p k {v} {q} e l a =
    let s = decode_item-sound c b e in
    let w : length (value_bits c v) + length (drop k b) ≡ length b = sym (ap length s.1 ∙ length-append (value_bits c v) (drop k b)) in
    let n : length (value_bits c v) ≡ k = omega (arith, rw length-drop at w) in
    rw (e, n) (ap (λ (z : BitPlace). Ok (v, z)) a)

-- ── a number ──

-- k bits, and what is made of them
module _ {A : Type 0} (b : List Bool) (p k : ℕ) (f : ℕ → List Bool → Got A) where
  field-short : front_of b p k ≡ None → bit_field k b f ≡ bad message_ends
  field-short e = rw (lt-leb k (length b) (front-Short b p k e))

  field_is : {n : ℕ} {q : BitPlace} → front_of b p k ≡ Some (n, q) → bit_field k b f ≡ f n (drop k b)
  field_is e = let front = front-Bits b p k e in rw (le-leb k (length b) front.inside, front.spells)

module _ (low : ℤ) (span : ℕ) (b : List Bool) (p : ℕ) where
  abbrev number_reading : Item
  number_reading = item_of (number low span) p (decode_item (number low span) b)

  abbrev number_value : ℕ → List Bool → Got ℕ
  number_value n r = provided (leb n span) above_span (got n r)

  pub number_short : front_of b p (width span) ≡ None → number_reading ≡ Err (refusal_at message_ends p)
  number_short e = rw (field-short b p (width span) number_value e)

  module _ {n : ℕ} {q : BitPlace} (e : front_of b p (width span) ≡ Some (n, q)) where
    pub number-over : span < n → number_reading ≡ Err (refusal_at above_span p)
    number-over h = rw (field_is b p (width span) number_value e, lt-leb n span h)

    pub number_is : n ≤ span → number_reading ≡ Ok (low +ℤ pos n, q)
    number_is h =
        let front = front-Bits b p (width span) e in
        let d : decode_item (number low span) b ≡ got (low +ℤ pos n) (drop (width span) b) =
        rw (field_is b p (width span) number_value e, le-leb n span h) in
        item-read (number low span) b p (width span) d front.inside front.after

-- ── an item of whole octets ──

-- what the number n of all bits of an item says that has c ones in front: the reading is made of what is above them
record Spelt {A : Type 0} (c n : ℕ) (reading : Got A) (made : ℕ → Got A) : Type 0 where
  worth : leading_worth c ≤ n
  below : n - leading_worth c < 2 ^ (7 * suc c)
  then : reading ≡ made (n - leading_worth c)

module _ {A : Type 0} (top form : ℕ) (b : List Bool) (f : ℕ → ℕ → List Bool → Got A) where
  octet-short : length b < 8 → octet_field top form b f ≡ bad message_ends
  octet-short h = rw (lt-leb 8 (length b) h)

  module _ (room : 8 ≤ length b) where
    octet-form : top ≤ ones_up_to top b → octet_field top form b f ≡ bad form
    octet-form h = rw (le-leb 8 (length b) room, le-ltb (ones_up_to top b) top h)

    module _ (c : ℕ) (ones : ones_up_to top b ≡ c) (small : c < top) (few : top ≤ 8) where
      octet-cut : length b < 8 * suc c → octet_field top form b f ≡ bad message_ends
      octet-cut h =
          rw (
            ones,
            le-leb 8 (length b) room,
            lt-ltb c top small,
            lt-leb (7 * suc c) (length (drop (suc c) b)) (rw length-drop (omega arith)),
          )

      octet_is : 8 * suc c ≤ length b → Spelt c (number_of (take (8 * suc c) b)) (octet_field top form b f) (λ m. f c m (drop (8 * suc c) b))
      octet_is h =
          let l : 7 * suc c ≤ length (drop (suc c) b) = rw length-drop (omega arith) in
          let s : number_of (take (8 * suc c) b) ≡ leading_worth c + number_of (take (7 * suc c) (drop (suc c) b)) =
          rw ones at (number_of-spelt top b (rw ones small) (omega arith) (rw ones l)) in
          let m : number_of (take (7 * suc c) (drop (suc c) b)) ≡ number_of (take (8 * suc c) b) - leading_worth c = omega arith in
          let k : suc c + 7 * suc c ≡ 8 * suc c = omega arith in
          record {
            worth = omega arith;
            below = rw m at (number_of-take_lt (7 * suc c) (7 * suc c) (drop (suc c) b) (omega arith));
            then =
                rw (ones, le-leb 8 (length b) room, lt-ltb c top small, le-leb (7 * suc c) (length (drop (suc c) b)) l)
                (ap₂ (f c) m (drop-drop (7 * suc c) (suc c) b ∙ ap (λ j. drop j b) k));
          }

-- the first octet tells the ones
module _ (b : List Bool) (p : ℕ) {first : ℕ} {next : BitPlace} (e : front_of b p 8 ≡ Some (first, next)) where
  first_room : 8 ≤ length b
  first_room = (front-Bits b p 8 e).inside

  first_ones : ones_up_to 4 (bits_of 8 first) ≡ ones_up_to 4 b
  first_ones = rw (front-Bits b p 8 e).spells at (ones-front 4 8 b (omega arith) first_room)

-- ── a variable number ──

module _ (b : List Bool) (p : ℕ) where
  abbrev variable_reading : Item
  variable_reading = item_of variable p (decode_item variable b)

  abbrev variable_value : ℕ → ℕ → List Bool → Got ℕ
  variable_value c m r = got (base c + m) r

  pub variable-short : front_of b p 8 ≡ None → variable_reading ≡ Err (refusal_at message_ends p)
  variable-short e = rw (octet-short 4 bad_variable b variable_value (front-Short b p 8 e))

  module _ {first : ℕ} {next : BitPlace} (e : front_of b p 8 ≡ Some (first, next)) (c : ℕ) (o : c ≡ ones_up_to 4 (bits_of 8 first)) where
    variable-ones : ones_up_to 4 b ≡ c
    variable-ones = sym (o ∙ first_ones b p e)

    pub variable-starts_1111 : 3 < c → variable_reading ≡ Err (refusal_at bad_variable p)
    variable-starts_1111 h = rw (octet-form 4 bad_variable b variable_value (first_room b p e) (omega (arith, variable-ones)))

    module _ (small : c ≤ 3) where
      pub variable-cut : front_of b p (8 * suc c) ≡ None → variable_reading ≡ Err (refusal_at message_ends p)
      variable-cut s = rw (octet-cut 4 bad_variable b variable_value (first_room b p e) c variable-ones (omega arith) (omega arith) (front-Short b p (8 * suc c) s))

      pub variable_is : {k l a n : ℕ} {q : BitPlace} → (k ≡ 8 * suc c) × (l ≡ leading_worth c) × (a ≡ base c) → front_of b p k ≡ Some (n, q)
          → (l ≤ n) × (a + (n - l) ≤ 270549119) × (variable_reading ≡ Ok (pos (a + (n - l)), q))
      variable_is {k} {l} {a} {n} {q} form s =
          let front = rw form.0 at (front-Bits b p k s) in
          let spelt = rw front.spells at (octet_is 4 bad_variable b variable_value (first_room b p e) c variable-ones (omega arith) (omega arith) front.inside) in
          let d : decode_item variable b ≡ got (pos (base c + (n - leading_worth c))) (drop (8 * suc c) b) = rw (spelt.then, zero-add) in
          rw (form.1, form.2) (
            spelt.worth,
            base-top c (n - leading_worth c) (omega arith) spelt.below,
            item-read variable b p (8 * suc c) d front.inside front.after,
          )

    pub variable_one_octet : c ≡ 0 → variable_reading ≡ Ok (pos first, next)
    unfolding leading_worth
    variable_one_octet z =
        let e' : front_of b p (8 * suc c) ≡ Some (first, next) = rw z e in
        let v = (variable_is (omega arith) (refl, refl, refl) e').2 in
        let n : base c + (first - leading_worth c) ≡ first = rw z (omega arith) in
        rw n at v

-- ── a length ──

-- where a test decides between the value and a refusal
tested : (c : Code) (b : List Bool) (p k : ℕ) (t : Bool) (n m : ℕ) {q : BitPlace}
    → decode_item c b ≡ above (pos 0) (provided t n (got m (drop k b))) → k ≤ length b → place_at (p + k) ≡ q
    → item_of c p (decode_item c b) ≡ cond t (Ok (pos m, q)) (Err (refusal_at n p))
tested c b p k true n m e l a = item-read c b p k (rw (zero-add m) at e) l a
tested c b p k false n m e l a = item_refused c b p e

module _ (least most : ℕ) (b : List Bool) (p : ℕ) where
  abbrev length_reading : Item
  length_reading = item_of (length_within least most) p (decode_item (length_within least most) b)

  abbrev length_value : ℕ → ℕ → List Bool → Got ℕ
  length_value c m r = provided (leb (least_of c) m) bad_length (provided (leb least m && leb m most) outside_limits (got m r))

  pub length-short : front_of b p 8 ≡ None → length_reading ≡ Err (refusal_at message_ends p)
  length-short e = rw (octet-short 2 bad_length b length_value (front-Short b p 8 e))

  module _ {first : ℕ} {next : BitPlace} (e : front_of b p 8 ≡ Some (first, next)) (c : ℕ) (o : c ≡ ones_up_to 4 (bits_of 8 first)) where
    length-ones : ones_up_to 2 b ≡ min 2 c
    length-ones = ones-fewer 2 4 b (omega arith) ∙ ap (min 2) (sym (o ∙ first_ones b p e))

    pub length-starts_11 : 1 < c → length_reading ≡ Err (refusal_at bad_length p)
    length-starts_11 h = rw (octet-form 2 bad_length b length_value (first_room b p e) (omega (arith, length-ones)))

    module _ (small : c ≤ 1) where
      ones-few : ones_up_to 2 b ≡ c
      ones-few = omega (arith, length-ones)

      pub length_cut : front_of b p (8 * suc c) ≡ None → length_reading ≡ Err (refusal_at message_ends p)
      length_cut s = rw (octet-cut 2 bad_length b length_value (first_room b p e) c ones-few (omega arith) (omega arith) (front-Short b p (8 * suc c) s))

      module _ {k l a n : ℕ} {q : BitPlace} (form : (k ≡ 8 * suc c) × (l ≡ leading_worth c) × (a ≡ base c)) (s : front_of b p k ≡ Some (n, q)) where
        length_front : Front b p (8 * suc c) n q
        length_front = rw form.0 at (front-Bits b p k s)

        length-spelt : Spelt c n (decode_offset (length_within least most) b) (λ m. length_value c m (drop (8 * suc c) b))
        length-spelt =
            rw length_front.spells at (octet_is 2 bad_length b length_value (first_room b p e) c ones-few (omega arith) (omega arith) length_front.inside)

        pub length-worth : l ≤ n
        length-worth = rw form.1 length-spelt.worth

        pub length_is : length_reading ≡ bounded_length p (n - l) q (least_of c) least most
        length_is = rw form.1 (go (leb (least_of c) m) refl)
          where
            m : ℕ
            m = n - leading_worth c

            go : (t : Bool) → leb (least_of c) m ≡ t
                → length_reading ≡ cond t (cond (leb least m && leb m most) (Ok (pos m, q)) (Err (refusal_at outside_limits p))) (Err (refusal_at bad_length p))
            go true h =
                tested (length_within least most) b p (8 * suc c) (leb least m && leb m most) outside_limits m (rw (length-spelt.then, h)) length_front.inside length_front.after
            go false h = rw (length-spelt.then, h)

    pub length_one_octet : c ≡ 0 → length_reading ≡ bounded_length p first next 0 least most
    unfolding leading_worth
    length_one_octet z =
        let e' : front_of b p (8 * suc c) ≡ Some (first, next) = rw z e in
        let n : first - leading_worth c ≡ first = rw z (omega arith) in
        let s : least_of c ≡ 0 = rw z in
        rw (n, s) at (length_is (omega arith) (refl, refl, refl) e')

-- ── an index ──

module _ (branches b : List Bool) (p : ℕ) where
  abbrev index_reading : Item
  index_reading = item_of (index branches) p (decode_item (index branches) b)

  abbrev index_value : ℕ → List Bool → Got ℕ
  index_value n r = provided (get_or branches n false) no_branch (got n r)

  pub index_short : front_of b p (index_width branches) ≡ None → index_reading ≡ Err (refusal_at message_ends p)
  index_short e = rw (field-short b p (index_width branches) index_value e)

  pub index_is : {n : ℕ} {q : BitPlace} → front_of b p (index_width branches) ≡ Some (n, q)
      → index_reading ≡ cond (get_or branches n false) (Ok (pos n, q)) (Err (refusal_at no_branch p))
  index_is {n} e =
      let front = front-Bits b p (index_width branches) e in
      tested (index branches) b p (index_width branches) (get_or branches n false) no_branch
      n (rw (field_is b p (index_width branches) index_value e))
      front.inside front.after
