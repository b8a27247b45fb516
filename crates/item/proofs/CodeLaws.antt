-- The laws of one item's bits: what was written is read back, what is read was written by exactly one value, and no item's
-- bits begin another's. Each is proved once, over the kind of item.
-- Assumes nothing.
use Prim.Native.Nat.{ℕ, zero, suc, ◌+◌, ◌-◌, ◌*◌, ◌^◌, ◌≤◌, ◌<◌, min}
use mathlib.Core.Bool.{Bool, true, false, cond, ◌&&◌, false≢true}
use mathlib.Core.Path.{◌≡◌, refl, sym, ap, ap₂, ◌∙◌}
use mathlib.Core.List.{List, [], ◌∷◌, ◌++◌, append_assoc}
use native.Mathlib.Omega.{arith}
use lib.Dec.{leb, ltb}
use lib.IntN.{ℤ, pos, negsuc, ◌+ℤ◌, ◌-ℤ◌, +ℤ_comm, +ℤ-neg_ℤ_cancel, -ℤ-+ℤ_cancel}
use lib.ListN.{length, take, drop, get_or, length-append, take-append-drop}
use lib.Seq.{take_at, drop_at, length-take-le}
use borrow.Author.Tests.{leb-true, ltb-true, ltb-false, le-leb, lt-ltb, le-ltb}
use Rattle.bits.specs.Bits.{number_of, bits_of, width}
use Rattle.bits.proofs.Bits.{length-bits_of, number_of-bits_of, bits_of-number_of, number_of_lt, width_above}
use Rattle.item.specs.Laws.{ItemLaws}
use Rattle.item.specs.Code.{Code, number, variable, length_within, index, low_of, leading, spelling, base, variable_ones, length_ones, index_width, allows_offset, offset_bits, natural, of_natural, allows, value_bits, Got, got, bad, provided, bit_field, ones_up_to, octet_field, least_of, decode_offset, above, decode_item}

pub provided-inv : {A : Type 0} (t : Bool) (n : ℕ) (g : Got A) {v : A} {r : List Bool} → provided t n g ≡ got v r → (t ≡ true) × (g ≡ got v r)
provided-inv true n g e = (refl, e)
provided-inv false n g e = (cc, cc)

module _ {A : Type 0} where
  pub bit_field-complete : (k n : ℕ) (r : List Bool) (f : ℕ → List Bool → Got A) → n < 2 ^ k → bit_field k (bits_of k n ++ r) f ≡ f n r
  bit_field-complete k n r f h =
      rw (
        le-leb k (length (bits_of k n ++ r)) (rw (length-append, length-bits_of) (omega arith)),
        take_at (bits_of k n) r k (length-bits_of k n),
        drop_at (bits_of k n) r k (length-bits_of k n),
        number_of-bits_of k n h,
      )

  pub record BitField (k : ℕ) (b : List Bool) (f : ℕ → List Bool → Got A) (v : A) (r : List Bool) : Type 0 where
    pub n : ℕ
    pub rest : List Bool
    pub below : n < 2 ^ k
    pub spelt : b ≡ bits_of k n ++ rest
    pub then : f n rest ≡ got v r

  pub bit_field-sound : (k : ℕ) (b : List Bool) (f : ℕ → List Bool → Got A) {v : A} {r : List Bool} → bit_field k b f ≡ got v r → BitField k b f v r
  bit_field-sound k b f e =
      let i = provided-inv (leb k (length b)) 2 (f (number_of (take k b)) (drop k b)) e in
      let l : length (take k b) ≡ k = length-take-le k b (leb-true k (length b) i.0) in
      let s : bits_of k (number_of (take k b)) ≡ take k b = rw l at (bits_of-number_of (take k b)) in
      record {
        n = number_of (take k b);
        rest = drop k b;
        below = rw l at (number_of_lt (take k b));
        spelt = rw s (sym (take-append-drop k b));
        then = i.1;
      }

pub length-leading : (c : ℕ) → length (leading c) ≡ suc c
length-leading zero = refl
length-leading (suc c) = ap suc (length-leading c)

ones_up_to-leading : (top c : ℕ) (r : List Bool) → c < top → ones_up_to top (leading c ++ r) ≡ c
ones_up_to-leading zero c r h = omega arith
ones_up_to-leading (suc top) zero r h = refl
ones_up_to-leading (suc top) (suc c) r h = ap suc (ones_up_to-leading top c r (omega arith))

pub leading-split : (top : ℕ) (b : List Bool) → ones_up_to top b < top → top ≤ length b → b ≡ leading (ones_up_to top b) ++ drop (suc (ones_up_to top b)) b
leading-split zero b h l = absurd (omega arith)
leading-split (suc top) [] h l = absurd (omega arith)
leading-split (suc top) (false ∷ b) h l = refl
leading-split (suc top) (true ∷ b) h l = ap (true ∷◌) (leading-split top b (omega arith) (omega arith))

module _ {A : Type 0} (top form : ℕ) where
  pub octet_field-complete : (c m : ℕ) (r : List Bool) (f : ℕ → ℕ → List Bool → Got A) → c < top → m < 2 ^ (7 * suc c) → octet_field top form (spelling c m ++ r) f ≡ f c m r
  octet_field-complete c m r f hc hm =
      let o : ones_up_to top (leading c ++ (bits_of (7 * suc c) m ++ r)) ≡ c = ones_up_to-leading top c (bits_of (7 * suc c) m ++ r) hc in
      rw (
        append_assoc,
        o,
        lt-ltb c top hc,
        le-leb 8 (length (leading c ++ (bits_of (7 * suc c) m ++ r))) (simp (length-append, length-leading, length-bits_of) (omega arith)),
        drop_at (leading c) (bits_of (7 * suc c) m ++ r) (suc c) (length-leading c),
      )
      (bit_field-complete (7 * suc c) m r (f c) hm)

  pub record OctetField (b : List Bool) (f : ℕ → ℕ → List Bool → Got A) (v : A) (r : List Bool) : Type 0 where
    pub c : ℕ
    pub m : ℕ
    pub rest : List Bool
    pub small : c < top
    pub below : m < 2 ^ (7 * suc c)
    pub spelt : b ≡ spelling c m ++ rest
    pub then : f c m rest ≡ got v r

  pub octet_field-sound : top ≤ 8 → (b : List Bool) (f : ℕ → ℕ → List Bool → Got A) {v : A} {r : List Bool} → octet_field top form b f ≡ got v r → OctetField b f v r
  octet_field-sound h b f e =
      let i = provided-inv (leb 8 (length b)) 2 _ e in
      let j = provided-inv (ltb (ones_up_to top b) top) form _ i.1 in
      let x = bit_field-sound (7 * suc (ones_up_to top b)) (drop (suc (ones_up_to top b)) b) (f (ones_up_to top b)) j.1 in
      let l = leb-true 8 (length b) i.0 in
      let o = ltb-true (ones_up_to top b) top j.0 in
      record {
        c = ones_up_to top b;
        m = x.n;
        rest = x.rest;
        small = o;
        below = x.below;
        spelt = leading-split top b o (omega arith) ∙ (rw append_assoc (ap (leading (ones_up_to top b) ++◌) x.spelt));
        then = x.then;
      }

pub variable_ones_is : (c m : ℕ) → c < 4 → m < 2 ^ (7 * suc c) → variable_ones (base c + m) ≡ c
variable_ones_is zero m h l = rw (lt-ltb (0 + m) 128 (omega arith))
variable_ones_is (suc zero) m h l = rw (le-ltb (128 + m) 128 (omega arith), lt-ltb (128 + m) 16512 (omega arith))
variable_ones_is (suc (suc zero)) m h l =
    rw (le-ltb (16512 + m) 128 (omega arith), le-ltb (16512 + m) 16512 (omega arith), lt-ltb (16512 + m) 2113664 (omega arith))
variable_ones_is (suc (suc (suc zero))) m h l =
    rw (le-ltb (2113664 + m) 128 (omega arith), le-ltb (2113664 + m) 16512 (omega arith), le-ltb (2113664 + m) 2113664 (omega arith))
variable_ones_is (suc (suc (suc (suc c)))) m h l = omega arith

spelling-variable : (n c m : ℕ) → c < 4 → m < 2 ^ (7 * suc c) → base c + m ≡ n → spelling (variable_ones n) (n - base (variable_ones n)) ≡ spelling c m
spelling-variable n c m h l s =
    let k : variable_ones n ≡ c = rw s at (variable_ones_is c m h l) in
    let e : n - base c ≡ m = omega arith in
    rw (k, e)

pub record Variable (n : ℕ) : Type 0 where
  pub c : ℕ
  pub m : ℕ
  pub small : c < 4
  pub below : m < 2 ^ (7 * suc c)
  pub sum : base c + m ≡ n

pub variable_ones_of : (n : ℕ) → n ≤ 270549119 → Variable n
variable_ones_of n h = go (ltb n 128) refl (ltb n 16512) refl (ltb n 2113664) refl
  where
    go : (t : Bool) → ltb n 128 ≡ t → (u : Bool) → ltb n 16512 ≡ u → (w : Bool) → ltb n 2113664 ≡ w → Variable n
    go true p u q w r = let x = ltb-true n 128 p in record { c = 0; m = n; small = omega arith; below = omega arith; sum = omega arith }
    go false p true q w r = let x = ltb-false n 128 p in let y = ltb-true n 16512 q in record { c = 1; m = n - 128; small = omega arith; below = omega arith; sum = omega arith }
    go false p false q true r = let x = ltb-false n 16512 q in let y = ltb-true n 2113664 r in record { c = 2; m = n - 16512; small = omega arith; below = omega arith; sum = omega arith }
    go false p false q false r = let x = ltb-false n 2113664 r in record { c = 3; m = n - 2113664; small = omega arith; below = omega arith; sum = omega arith }

pub base-top : (c m : ℕ) → c < 4 → m < 2 ^ (7 * suc c) → base c + m ≤ 270549119
base-top zero m h l = omega arith
base-top (suc zero) m h l = omega arith
base-top (suc (suc zero)) m h l = omega arith
base-top (suc (suc (suc zero))) m h l = omega arith
base-top (suc (suc (suc (suc c)))) m h l = omega arith

length_ones_is : (c m : ℕ) → c < 2 → m < 2 ^ (7 * suc c) → least_of c ≤ m → length_ones m ≡ c
length_ones_is zero m h l g = rw (lt-ltb m 128 (omega arith))
length_ones_is (suc zero) m h l g = rw (le-ltb m 128 (omega arith))
length_ones_is (suc (suc c)) m h l g = omega arith

length-top : (c m : ℕ) → c < 2 → m < 2 ^ (7 * suc c) → m ≤ 16383
length-top zero m h l = omega arith
length-top (suc zero) m h l = omega arith
length-top (suc (suc c)) m h l = omega arith

pub record LengthForm (c n : ℕ) : Type 0 where
  pub small : c < 2
  pub below : n < 2 ^ (7 * suc c)
  pub above : least_of c ≤ n

pub length_ones_of : (n : ℕ) → n ≤ 16383 → LengthForm (length_ones n) n
length_ones_of n h = go (ltb n 128) refl
  where
    go : (t : Bool) → ltb n 128 ≡ t → LengthForm (cond t 0 1) n
    go true p = let x = ltb-true n 128 p in record { small = omega arith; below = omega arith; above = omega arith }
    go false p = let x = ltb-false n 128 p in record { small = omega arith; below = omega arith; above = omega arith }

pub and-inv : (a b : Bool) → a && b ≡ true → (a ≡ true) × (b ≡ true)
and-inv true b h = (refl, h)
and-inv false b h = absurd (false≢true h)

pub true-lt : (bs : List Bool) (n : ℕ) → get_or bs n false ≡ true → n < length bs
true-lt [] n e = absurd (false≢true e)
true-lt (b ∷ bs) zero e = omega arith
true-lt (b ∷ bs) (suc n) e = omega (arith, true-lt bs n e)

pub decode_offset-complete : (c : Code) (n : ℕ) (r : List Bool) → allows_offset c n ≡ true → decode_offset c (offset_bits c n ++ r) ≡ got n r
decode_offset-complete (number low span) n r h =
    bit_field-complete (width span) n r (λ n r. provided (leb n span) 3 (got n r)) (omega (arith, width_above span, leb-true n span h)) ∙ rw h
decode_offset-complete variable n r h =
    let x = variable_ones_of n (leb-true n 270549119 h) in
    rw (spelling-variable n x.c x.m x.small x.below x.sum)
    (octet_field-complete 4 7 x.c x.m r (λ c m r. got (base c + m) r) x.small x.below ∙ ap (λ k. got k r) x.sum)
decode_offset-complete (length_within least most) n r h =
    let w = and-inv (leb least n) (leb n (min most 16383)) h in
    let l = leb-true n (min most 16383) w.1 in
    let x = length_ones_of n (omega arith) in
    octet_field-complete 2 5 (length_ones n) n r (λ c m r. provided (leb (least_of c) m) 5 (provided (leb least m && leb m most) 6 (got m r))) x.small x.below
    ∙ rw (le-leb (least_of (length_ones n)) n x.above, w.0, le-leb n most (omega arith))
decode_offset-complete (index branches) n r h =
    bit_field-complete (index_width branches) n r (λ n r. provided (get_or branches n false) 4 (got n r)) (omega (arith, width_above (length branches - 1), true-lt branches n h)) ∙ rw h

pub decode_offset-sound : (c : Code) (b : List Bool) {n : ℕ} {r : List Bool} → decode_offset c b ≡ got n r → (allows_offset c n ≡ true) × (b ≡ offset_bits c n ++ r)
decode_offset-sound (number low span) b {n} {r} e =
    let x = bit_field-sound (width span) b (λ n r. provided (leb n span) 3 (got n r)) e in
    let i = provided-inv (leb x.n span) 3 (got x.n x.rest) x.then in
    let en : x.n ≡ n = cc in
    let er : x.rest ≡ r = cc in
    (rw en at i.0, rw (en, er) at x.spelt)
decode_offset-sound variable b {n} {r} e =
    let x = octet_field-sound 4 7 (omega arith) b (λ c m r. got (base c + m) r) e in
    let en : base x.c + x.m ≡ n = cc in
    let er : x.rest ≡ r = cc in (
      le-leb n 270549119 (omega (arith, base-top x.c x.m x.small x.below)),
      x.spelt ∙ ap₂ ◌++◌ (sym (spelling-variable n x.c x.m x.small x.below en)) er,
    )
decode_offset-sound (length_within least most) b {n} {r} e =
    let x = octet_field-sound 2 5 (omega arith) b (λ c m r. provided (leb (least_of c) m) 5 (provided (leb least m && leb m most) 6 (got m r))) e in
    let i = provided-inv (leb (least_of x.c) x.m) 5 (provided (leb least x.m && leb x.m most) 6 (got x.m x.rest)) x.then in
    let j = provided-inv (leb least x.m && leb x.m most) 6 (got x.m x.rest) i.1 in
    let w = and-inv (leb least x.m) (leb x.m most) j.0 in
    let en : x.m ≡ n = cc in
    let er : x.rest ≡ r = cc in
    let f = length_ones_is x.c x.m x.small x.below (leb-true (least_of x.c) x.m i.0) in (
      rw (le-leb n (min most 16383) (omega (arith, leb-true x.m most w.1, length-top x.c x.m x.small x.below)), le-leb least n (omega (arith, leb-true least x.m w.0))) refl,
      x.spelt ∙ ap₂ ◌++◌ (ap₂ spelling (sym f ∙ ap length_ones en) en) er,
    )
decode_offset-sound (index branches) b {n} {r} e =
    let x = bit_field-sound (index_width branches) b (λ n r. provided (get_or branches n false) 4 (got n r)) e in
    let i = provided-inv (get_or branches x.n false) 4 (got x.n x.rest) x.then in
    let en : x.n ≡ n = cc in
    let er : x.rest ≡ r = cc in
    (rw en at i.0, rw (en, er) at x.spelt)

offset-back : (l : ℤ) (n : ℕ) → (l +ℤ pos n) -ℤ l ≡ pos n
offset-back l n = rw (+ℤ_comm l (pos n)) (+ℤ-neg_ℤ_cancel (pos n) l)

pub decode_item-complete : (c : Code) (v : ℤ) (r : List Bool) → allows c v ≡ true → decode_item c (value_bits c v ++ r) ≡ got v r
decode_item-complete c v r h = go (v -ℤ low_of c) refl h
  where
    go : (d : ℤ) → v -ℤ low_of c ≡ d → of_natural (allows_offset c) d ≡ true → above (low_of c) (decode_offset c (offset_bits c (natural d) ++ r)) ≡ got v r
    go (pos n) e h =
        let s : low_of c +ℤ pos n ≡ v = +ℤ_comm (low_of c) (pos n) ∙ ap (◌+ℤ low_of c) (sym e) ∙ -ℤ-+ℤ_cancel v (low_of c) in
        rw (decode_offset-complete c n r h, s)
    go (negsuc n) e h = absurd (false≢true h)

pub decode_item-sound : (c : Code) (b : List Bool) {v : ℤ} {r : List Bool} → decode_item c b ≡ got v r → (allows c v ≡ true) × (b ≡ value_bits c v ++ r)
decode_item-sound c b {v} {r} e = go (decode_offset c b) refl e
  where
    go : (g : Got ℕ) → decode_offset c b ≡ g → above (low_of c) g ≡ got v r → (allows c v ≡ true) × (b ≡ value_bits c v ++ r)
    go (got n s) q e =
        let en : low_of c +ℤ pos n ≡ v = cc in
        let er : s ≡ r = cc in
        let d : v -ℤ low_of c ≡ pos n = rw en at (offset-back (low_of c) n) in
        let x = decode_offset-sound c b q in
        (rw d x.0, rw (d, ← er) x.1)
    go (bad n) q e = (cc, cc)

-- two values whose bits begin the same bits are one
pub item_one : (c : Code) (v w : ℤ) (r s : List Bool) → allows c v ≡ true → allows c w ≡ true → value_bits c v ++ r ≡ value_bits c w ++ s → (v ≡ w) × (r ≡ s)
item_one c v w r s hv hw e =
    let x = sym (decode_item-complete c v r hv) ∙ ap (decode_item c) e ∙ decode_item-complete c w s hw in
    (cc, cc)

pub item_laws : (c : Code) → ItemLaws c
item_laws c = record {
  back = decode_item-complete c;
  written = λ b v r e. decode_item-sound c b e;
  one = item_one c;
}
