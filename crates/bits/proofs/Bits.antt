-- Laws of bits: of the k bits of a number, of the number that bits spell, of the smallest width, of the bits of octets and of
-- the octets of bits. Each once over the width.
use Prim.Native.Nat.{ℕ, zero, suc, ◌+◌, ◌-◌, ◌*◌, ◌^◌, ◌/◌, ◌%◌, ◌≤◌, ◌<◌}
use mathlib.Core.Bool.{Bool, true, false, cond}
use mathlib.Core.Path.{◌≡◌, refl, sym, ap, ap₂, ◌∙◌}
use mathlib.Core.List.{List, [], ◌∷◌, ◌++◌, append_assoc}
use native.Mathlib.Omega.{arith}
use native.Mathlib.Decide.{dec_lt}
use native.Mathlib.Nat.{pow-succ', add-zero, zero-add, add-suc, suc-add, suc-sub-suc, add-mul-div_left, div-eq_of_lt-le, div-eq_of_lt, lt_of_lt_of_le}
use lib.Pow.{pow_pos, pow-add, pow_mono}
use lib.Dec.{leb, ltb, eqb}
use lib.ListN.{length, get_or, take, drop, length-append, length-take, length-drop, take-append-drop, get_or-append}
use lib.Seq.{take_at, drop_at, length-take-le, get_or-append-add}
use borrow.Author.Tests.{leb-true, leb-false, ltb-true, ltb-false, le-leb, lt-leb}
use Rattle.bits.specs.Bits.{weight, number_of, bits_of, width_from, width, unpack, pack}

-- ---- the k bits of a number, and the number of bits

pub length-bits_of : (k n : ℕ) → length (bits_of k n) ≡ k
unfolding bits_of
length-bits_of zero n = refl
length-bits_of (suc k) n = ap suc (length-bits_of k (n - weight (leb (2 ^ k) n) k))

pub number_of_lt : (b : List Bool) → number_of b < 2 ^ length b
unfolding number_of
number_of_lt [] = omega arith
number_of_lt (true ∷ b) = rw (pow-succ' 2 (length b)) (omega (arith, number_of_lt b))
number_of_lt (false ∷ b) = rw (pow-succ' 2 (length b)) (omega (arith, number_of_lt b))

-- the first i bits of a list spell a number below 2 ^ k, for every k from i on
pub number_of-take_lt : (i k : ℕ) (b : List Bool) → i ≤ k → number_of (take i b) < 2 ^ k
number_of-take_lt i k b h = lt_of_lt_of_le (number_of_lt (take i b)) (pow_mono (rw length-take (omega arith)))

pub number_of-bits_of : (k n : ℕ) → n < 2 ^ k → number_of (bits_of k n) ≡ n
unfolding bits_of number_of
number_of-bits_of zero n h = omega arith
number_of-bits_of (suc k) n h = go (leb (2 ^ k) n) refl (λ m. number_of-bits_of k m)
  where
    go : (t : Bool) → leb (2 ^ k) n ≡ t → ((m : ℕ) → m < 2 ^ k → number_of (bits_of k m) ≡ m)
        → weight t (length (bits_of k (n - weight t k))) + number_of (bits_of k (n - weight t k)) ≡ n
    go true e ih = let l = leb-true (2 ^ k) n e in rw (length-bits_of, ih (n - 2 ^ k) (omega arith)) (omega arith)
    go false e ih = let l = leb-false (2 ^ k) n e in rw (ih (n - 0) (omega arith)) (omega arith)

pub bits_of-number_of : (b : List Bool) → bits_of (length b) (number_of b) ≡ b
unfolding bits_of number_of
bits_of-number_of [] = refl
bits_of-number_of (true ∷ b) =
    let e : 2 ^ length b + number_of b - 2 ^ length b ≡ number_of b = omega arith in
    rw (le-leb (2 ^ length b) (2 ^ length b + number_of b) (omega arith), e) (ap (true ∷◌) (bits_of-number_of b))
bits_of-number_of (false ∷ b) =
    let e : 0 + number_of b - 0 ≡ number_of b = omega arith in
    rw (lt-leb (2 ^ length b) (0 + number_of b) (omega (arith, number_of_lt b)), e) (ap (false ∷◌) (bits_of-number_of b))

-- two lists of as many bits that spell the same number are equal
pub number_of-injective : (b c : List Bool) → length b ≡ length c → number_of b ≡ number_of c → b ≡ c
number_of-injective b c l e = sym (bits_of-number_of b) ∙ ap₂ bits_of l e ∙ bits_of-number_of c

-- ---- joined bits

pub number_of-append : (x y : List Bool) → number_of (x ++ y) ≡ number_of x * 2 ^ length y + number_of y
unfolding number_of
number_of-append [] y = omega arith
number_of-append (true ∷ x) y = rw (length-append x y, pow-add 2 (length x) (length y), number_of-append x y) (omega arith)
number_of-append (false ∷ x) y = rw (number_of-append x y) (omega arith)

pub bits_of-append : (a b x y : ℕ) → x < 2 ^ a → y < 2 ^ b → bits_of (a + b) (x * 2 ^ b + y) ≡ bits_of a x ++ bits_of b y
bits_of-append a b x y hx hy =
    let l : length (bits_of a x ++ bits_of b y) ≡ a + b = rw (length-append, length-bits_of a x, length-bits_of b y) in
    let n : number_of (bits_of a x ++ bits_of b y) ≡ x * 2 ^ b + y =
    rw (number_of-append, length-bits_of, number_of-bits_of a x hx, number_of-bits_of b y hy) in
    ap₂ bits_of (sym l) (sym n) ∙ bits_of-number_of (bits_of a x ++ bits_of b y)

last_bit : (n : ℕ) (x : Bool) → n * 2 ^ length (x ∷ []) + number_of (x ∷ []) ≡ 2 * n + cond x 1 0
unfolding number_of
last_bit n true = omega arith
last_bit n false = omega arith

-- ---- the width of a number

lt_pow : (n : ℕ) → n < 2 ^ n
lt_pow zero = omega arith
lt_pow (suc n) = rw (pow-succ' 2 n) (omega (arith, lt_pow n))

width_from_above : (f k n : ℕ) → n < 2 ^ (k + f) → n < 2 ^ width_from f k n
width_from_above zero k n h = rw add-zero at h
width_from_above (suc f) k n h = go (ltb n (2 ^ k)) refl (width_from_above f (suc k) n (rw (add-suc, ← suc-add) at h))
  where
    go : (t : Bool) → ltb n (2 ^ k) ≡ t → n < 2 ^ width_from f (suc k) n
        → n < 2 ^ (elim t as (λ _. ℕ) [ true ↦ k | false ↦ width_from f (suc k) n ])
    go true e ih = ltb-true n (2 ^ k) e
    go false e ih = ih

-- a number fits its width
pub width_above : (n : ℕ) → n < 2 ^ width n
unfolding width
width_above n = width_from_above n 0 n (rw zero-add (lt_pow n))

width_from-least : (f j n k : ℕ) → j ≤ k → n < 2 ^ k → width_from f j n ≤ k
width_from-least zero j n k h l = h
width_from-least (suc f) j n k h l = go (ltb n (2 ^ j)) refl (λ m. width_from-least f (suc j) n k m l)
  where
    go : (t : Bool) → ltb n (2 ^ j) ≡ t → (suc j ≤ k → width_from f (suc j) n ≤ k)
        → (elim t as (λ _. ℕ) [ true ↦ j | false ↦ width_from f (suc j) n ]) ≤ k
    go true e ih = h
    go false e ih =
        let b = ltb-false n (2 ^ j) e in
        ih (elim (dec_lt j k) [ yes g ↦ g | no g ↦ absurd (omega (arith, pow_mono {i = k} {j = j} (omega arith))) ])

-- and no smaller one
pub width-least : (n k : ℕ) → n < 2 ^ k → width n ≤ k
unfolding width
width-least n k h = width_from-least n 0 n k (omega arith) h

-- ---- a bit of a number

-- bit j of n, counted from the lowest
unfoldable pub odd : ℕ → ℕ → Bool
odd n j = eqb (n / 2 ^ j % 2) 1

even-shift : (m j x : ℕ) → odd (m + 2 ^ j * (2 * x)) j ≡ odd m j
unfolding odd
even-shift m j x =
    let e : (m / 2 ^ j + 2 * x) % 2 ≡ m / 2 ^ j % 2 = omega arith in
    rw (add-mul-div_left m (2 * x) (pow_pos j), e)

top_set : (k n : ℕ) → 2 ^ k ≤ n → n < 2 ^ suc k → odd n k ≡ true
unfolding odd
top_set k n l h = rw (div-eq_of_lt-le {k = 1} (2 ^ k) {m = n} (omega arith) (omega (arith, rw (pow-succ' 2 k) at h)))

top-clear : (k n : ℕ) → n < 2 ^ k → odd n k ≡ false
unfolding odd
top-clear k n l = rw (div-eq_of_lt l)

-- a bit of the k bits of a number
pub bit_of : (k n i : ℕ) → n < 2 ^ k → i < k → get_or (bits_of k n) i false ≡ odd n (k - suc i)
unfolding bits_of
bit_of zero n i h l = absurd (omega arith)
bit_of (suc k) n zero h l = let s : suc k - 1 ≡ k = omega arith in rw s (go (leb (2 ^ k) n) refl)
  where
    go : (t : Bool) → leb (2 ^ k) n ≡ t → leb (2 ^ k) n ≡ odd n k
    go true e = e ∙ sym (top_set k n (leb-true (2 ^ k) n e) h)
    go false e = e ∙ sym (top-clear k n (leb-false (2 ^ k) n e))
bit_of (suc k) n (suc i) h l = go (leb (2 ^ k) n) refl (λ m hm. bit_of k m i hm (omega arith))
  where
    j : ℕ
    j = k - suc i

    pw : 2 ^ k ≡ 2 ^ j * (2 * 2 ^ i)
    pw = let s : k ≡ j + suc i = omega arith in ap (2 ^◌) s ∙ pow-add 2 j (suc i) ∙ ap (2 ^ j *◌) (pow-succ' 2 i)

    go : (t : Bool) → leb (2 ^ k) n ≡ t → ((m : ℕ) → m < 2 ^ k → get_or (bits_of k m) i false ≡ odd m (k - suc i))
        → get_or (bits_of k (n - weight t k)) i false ≡ odd n (suc k - suc (suc i))
    go true e ih =
        let b = leb-true (2 ^ k) n e in
        let p = rw (pow-succ' 2 k) at h in
        let z : n - 2 ^ k + 2 ^ j * (2 * 2 ^ i) ≡ n = omega (arith, pw) in
        rw suc-sub-suc (ih (n - 2 ^ k) (omega arith) ∙ sym (even-shift (n - 2 ^ k) j (2 ^ i)) ∙ ap (λ m. odd m j) z)
    go false e ih =
        let b = leb-false (2 ^ k) n e in
        let z : n - 0 ≡ n = omega arith in
        rw (suc-sub-suc, z) (ih n b)

-- ---- the bits of octets

pub length-unpack : (s : List ℕ) → length (unpack s) ≡ 8 * length s
unfolding unpack
length-unpack [] = refl
length-unpack (o ∷ s) = rw (length-append, length-bits_of, length-unpack s) (omega arith)

pub length-pack : (n : ℕ) (b : List Bool) → length (pack n b) ≡ n
unfolding pack
length-pack zero b = refl
length-pack (suc n) b = ap suc (length-pack n (drop 8 b))

pub unpack-pack : (n : ℕ) (b : List Bool) → length b ≡ 8 * n → unpack (pack n b) ≡ b
unfolding unpack pack
unpack-pack zero [] h = refl
unpack-pack zero (x ∷ b) h = absurd (omega arith)
unpack-pack (suc n) b h =
    let l : length (take 8 b) ≡ 8 = length-take-le 8 b (omega arith) in
    let e : bits_of 8 (number_of (take 8 b)) ≡ take 8 b = rw l at (bits_of-number_of (take 8 b)) in
    rw (e, unpack-pack n (drop 8 b) (rw length-drop (omega arith))) (take-append-drop 8 b)

pub pack-unpack : (s : List ℕ) → ((i : ℕ) → get_or s i 0 < 256) → pack (length s) (unpack s) ≡ s
unfolding unpack pack
pack-unpack [] h = refl
pack-unpack (o ∷ s) h =
    rw (
      take_at (bits_of 8 o) (unpack s) 8 (length-bits_of 8 o),
      drop_at (bits_of 8 o) (unpack s) 8 (length-bits_of 8 o),
      number_of-bits_of 8 o (h 0),
      pack-unpack s (λ i. h (suc i)),
    )

-- every octet of bits is below 256
pub pack-octets : (n : ℕ) (b : List Bool) (i : ℕ) → get_or (pack n b) i 0 < 256
unfolding pack
pack-octets zero b i = omega arith
pack-octets (suc n) b zero = number_of-take_lt 8 8 b (omega arith)
pack-octets (suc n) b (suc i) = pack-octets n (drop 8 b) i

pub unpack-append : (s t : List ℕ) → unpack (s ++ t) ≡ unpack s ++ unpack t
unfolding unpack
unpack-append [] t = refl
unpack-append (o ∷ s) t = rw (unpack-append s t) (sym (append_assoc (bits_of 8 o) (unpack s) (unpack t)))

module _ (n : ℕ) (s : List ℕ) (h : n ≤ length s) where
  length-unpack-take : length (unpack (take n s)) ≡ 8 * n
  length-unpack-take = rw (length-unpack, length-take-le n s h)

  cut : unpack s ≡ unpack (take n s) ++ unpack (drop n s)
  cut = ap unpack (sym (take-append-drop n s)) ∙ unpack-append (take n s) (drop n s)

  pub unpack-take : unpack (take n s) ≡ take (8 * n) (unpack s)
  unpack-take = rw cut (sym (take_at (unpack (take n s)) (unpack (drop n s)) (8 * n) length-unpack-take))

  pub unpack-drop : unpack (drop n s) ≡ drop (8 * n) (unpack s)
  unpack-drop = rw cut (sym (drop_at (unpack (take n s)) (unpack (drop n s)) (8 * n) length-unpack-take))

-- octets with the same bits are the same
pub unpack-injective : (s t : List ℕ) → ((i : ℕ) → get_or s i 0 < 256) → ((i : ℕ) → get_or t i 0 < 256) → unpack s ≡ unpack t → s ≡ t
unpack-injective s t hs ht e =
    let l : 8 * length s ≡ 8 * length t = sym (length-unpack s) ∙ ap length e ∙ length-unpack t in
    let n : length s ≡ length t = omega arith in
    sym (pack-unpack s hs) ∙ ap₂ pack n e ∙ pack-unpack t ht

-- a bit of octets
pub bit_at : (s : List ℕ) (i : ℕ) → ((j : ℕ) → get_or s j 0 < 256) → i < 8 * length s
    → get_or (unpack s) i false ≡ odd (get_or s (i / 8) 0) (7 - i % 8)
unfolding unpack
bit_at [] i h l = absurd (omega arith)
bit_at (o ∷ s) i h l = go (ltb i 8) refl (λ j m. bit_at s j (λ k. h (suc k)) m)
  where
    go : (t : Bool) → ltb i 8 ≡ t → ((j : ℕ) → j < 8 * length s → get_or (unpack s) j false ≡ odd (get_or s (j / 8) 0) (7 - j % 8))
        → get_or (bits_of 8 o ++ unpack s) i false ≡ odd (get_or (o ∷ s) (i / 8) 0) (7 - i % 8)
    go true e ih =
        let a = ltb-true i 8 e in
        let d : i / 8 ≡ 0 = omega arith in
        let m : 7 - i % 8 ≡ 8 - suc i = omega arith in
        get_or-append (bits_of 8 o) (unpack s) false i (rw length-bits_of a) ∙ rw (d, m) (bit_of 8 o i (h 0) a)
    go false e ih =
        let a = ltb-false i 8 e in
        let d : i / 8 ≡ suc ((i - 8) / 8) = omega arith in
        let m : 7 - i % 8 ≡ 7 - (i - 8) % 8 = omega arith in
        let z : length (bits_of 8 o) + (i - 8) ≡ i = rw length-bits_of (omega arith) in
        (rw z at (get_or-append-add (bits_of 8 o) (unpack s) (i - 8) false)) ∙ rw (d, m) (ih (i - 8) (omega arith))

parity : (x : ℕ) → x < 2 → cond (eqb x 1) 1 0 ≡ x
parity zero h = refl
parity (suc zero) h = refl
parity (suc (suc x)) h = omega arith
