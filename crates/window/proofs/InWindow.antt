-- Five octets of a list as one number of 40 bits: the bits from a place on are cut out of it, and storing it with some of its
-- bits replaced replaces those bits of the list. A window may run past the list's end: the list is followed by five octets 0
-- here, and only what lies in the list is compared.
use Prim.Native.Nat.{ℕ, zero, suc, ◌+◌, ◌-◌, ◌*◌, ◌^◌, ◌/◌, ◌%◌, ◌≤◌, ◌<◌}
use mathlib.Core.Bool.{Bool}
use mathlib.Core.Path.{◌≡◌, refl, sym, ap, ap₂, ◌∙◌}
use mathlib.Core.List.{List, [], ◌∷◌, ◌++◌, append-nil}
use native.Mathlib.Omega.{arith}
use native.Mathlib.Decide.{dec_lt}
use native.Mathlib.Nat.{div-add-mod', div-div-eq-div-mul}
use lib.ListN.{length, get_or, take, drop, set, replicate, length-append, length-take, length-drop, length-set, get_or-append, get_or-eq_default}
use lib.Pow.{pow-add}
use lib.Seq.{sets, set-get_or, set_out, take_all, take_at, take-set-lt, take-set-le, length-take-le, get_or-append-add, drop-append-add}
use Rattle.bits.specs.Bits.{number_of, bits_of, unpack}
use Rattle.window.specs.Window.{window_at, with_window, placed}
use Rattle.bits.proofs.Bits.{length-bits_of, number_of-bits_of, bits_of-number_of, number_of-append, bits_of-append, length-unpack, unpack-append, unpack-take}
use Rattle.bits.proofs.Splice.{spliced, length-spliced, spliced-append, part-append}
use Rattle.bits.proofs.Octets.{unpack-sets, sets-spliced}
use Rattle.window.proofs.Parts.{number_of-middle, bits_of-placed, placed_lt}

-- ---- five octets as a number

-- the octets of a number of 40 bits
abbrev octets_of : ℕ → List ℕ
octets_of w = w / 4294967296 % 256 ∷ w / 16777216 % 256 ∷ w / 65536 % 256 ∷ w / 256 % 256 ∷ w % 256 ∷ []

-- an octet more, on top
number_of-octet : (o : ℕ) (s : List ℕ) → o < 256 → number_of (unpack (o ∷ s)) ≡ o * 2 ^ (8 * length s) + number_of (unpack s)
unfolding unpack
number_of-octet o s h = rw (number_of-append (bits_of 8 o) (unpack s), number_of-bits_of 8 o h, length-unpack s)

-- five octets are the bits of their number
unpack-five : (a b c d e : ℕ) → a < 256 → b < 256 → c < 256 → d < 256 → e < 256
    → unpack (a ∷ b ∷ c ∷ d ∷ e ∷ []) ≡ bits_of 40 (a * 4294967296 + b * 16777216 + c * 65536 + d * 256 + e)
unfolding number_of unpack
unpack-five a b c d e ha hb hc hd he =
    let s : List ℕ = a ∷ b ∷ c ∷ d ∷ e ∷ [] in
    let n : number_of (unpack s) ≡ a * 4294967296 + b * 16777216 + c * 65536 + d * 256 + e =
    rw (
      number_of-octet a (b ∷ c ∷ d ∷ e ∷ []) ha,
      number_of-octet b (c ∷ d ∷ e ∷ []) hb,
      number_of-octet c (d ∷ e ∷ []) hc,
      number_of-octet d (e ∷ []) hd,
      number_of-octet e [] he,
    )
    (omega arith) in
    sym (bits_of-number_of (unpack s)) ∙ ap₂ bits_of (length-unpack s) n

-- digits, each with the number above it, joined
horner : (x₀ x₁ x₂ x₃ x₄ r₀ r₁ r₂ r₃ : ℕ) → x₁ * 256 + r₀ ≡ x₀ → x₂ * 256 + r₁ ≡ x₁ → x₃ * 256 + r₂ ≡ x₂ → x₄ * 256 + r₃ ≡ x₃
    → x₄ * 4294967296 + r₃ * 16777216 + r₂ * 65536 + r₁ * 256 + r₀ ≡ x₀
horner x₀ x₁ x₂ x₃ x₄ r₀ r₁ r₂ r₃ e₀ e₁ e₂ e₃ = omega arith

-- the octets of a number are its digits
digits : (w : ℕ) → w < 2 ^ 40
    → w / 4294967296 % 256 * 4294967296 + w / 16777216 % 256 * 16777216 + w / 65536 % 256 * 65536 + w / 256 % 256 * 256 + w % 256 ≡ w
digits w h =
    let small : w / 4294967296 < 256 = omega arith in
    let whole : w / 4294967296 % 256 ≡ w / 4294967296 = omega arith in
    let above : w / 4294967296 ≡ w / 16777216 / 256 = omega arith in
    let e₃ : w / 4294967296 % 256 * 256 + w / 16777216 % 256 ≡ w / 16777216 = rw (whole ∙ above) (div-add-mod' (w / 16777216) 256) in
    horner w (w / 256) (w / 65536) (w / 16777216) (w / 4294967296 % 256) (w % 256) (w / 256 % 256) (w / 65536 % 256) (w / 16777216 % 256)
    (omega arith) (omega arith) (omega arith) e₃

unpack-octets_of : (w : ℕ) → w < 2 ^ 40 → unpack (octets_of w) ≡ bits_of 40 w
unpack-octets_of w h =
    unpack-five (w / 4294967296 % 256) (w / 16777216 % 256) (w / 65536 % 256) (w / 256 % 256) (w % 256)
    (omega arith) (omega arith) (omega arith) (omega arith) (omega arith)
    ∙ ap (bits_of 40) (digits w h)

-- ---- storing five octets

with_window-sets : (m : List ℕ) (j w : ℕ) → with_window m j w ≡ sets m j (octets_of w)
with_window-sets m j w =
    let e1 : j + 1 ≡ suc j = omega arith in
    let e2 : j + 2 ≡ suc (suc j) = omega arith in
    let e3 : j + 3 ≡ suc (suc (suc j)) = omega arith in
    let e4 : j + 4 ≡ suc (suc (suc (suc j))) = omega arith in
    rw (e1, e2, e3, e4)

-- a window put back where it was read changes nothing
put_back : (m : List ℕ) (octets : (i : ℕ) → get_or m i 0 < 256) (j : ℕ) → with_window m j (window_at m j) ≡ m
put_back m octets j =
    let w = window_at m j in
    let o₀ = octets j in
    let o₁ = octets (j + 1) in
    let o₂ = octets (j + 2) in
    let o₃ = octets (j + 3) in
    let o₄ = octets (j + 4) in
    let a : w / 4294967296 % 256 ≡ get_or m j 0 = omega arith in
    let b : w / 16777216 % 256 ≡ get_or m (j + 1) 0 = omega arith in
    let c : w / 65536 % 256 ≡ get_or m (j + 2) 0 = omega arith in
    let d : w / 256 % 256 ≡ get_or m (j + 3) 0 = omega arith in
    let e : w % 256 ≡ get_or m (j + 4) 0 = omega arith in
    rw (a, b, c, d, e) (simp set-get_or)

-- ---- a list followed by five octets 0

abbrev padded : List ℕ → List ℕ
padded m = m ++ replicate 5 0

-- past its end as well
zeros_at : (n i : ℕ) → ◌≡◌ {A = ℕ} (get_or (replicate n 0) i 0) 0
zeros_at zero i = refl
zeros_at (suc n) zero = refl
zeros_at (suc n) (suc i) = zeros_at n i

padded_at : (m : List ℕ) (i : ℕ) → get_or (padded m) i 0 ≡ get_or m i 0
padded_at m i = elim (dec_lt i (length m)) [
  | yes h ↦ get_or-append m (replicate 5 0) 0 i h
  | no h ↦
      let e : length m + (i - length m) ≡ i = omega arith in
      let l : length m ≤ i = omega arith in
      (rw e at (get_or-append-add m (replicate 5 0) (i - length m) 0)) ∙ zeros_at 5 (i - length m) ∙ sym (get_or-eq_default m 0 l)
]

take-set : {A : Type 0} (n : ℕ) (l : List A) (i : ℕ) (a : A) → take n (set l i a) ≡ set (take n l) i a
take-set n l i a = elim (dec_lt i n) [
  | yes h ↦ take-set-lt n l i a h
  | no h ↦ take-set-le n l i a (omega arith) ∙ sym (set_out (take n l) i a (rw length-take (omega arith)))
]

-- what lies past the end is not stored
put-padded : (m : List ℕ) (j w : ℕ) → take (length m) (with_window (padded m) j w) ≡ with_window m j w
put-padded m j w = simp (take-set, take_at m (replicate 5 0) (length m) refl)

module _ (m : List ℕ) (octets : (i : ℕ) → get_or m i 0 < 256) (j : ℕ) (inside : j ≤ length m) where
  abbrev before : List Bool
  before = unpack (take j (padded m))

  abbrev behind : List Bool
  behind = unpack (drop (j + 5) (padded m))

  length_before : length before ≡ 8 * j
  length_before = rw (length-unpack, length-take-le j (padded m) (rw length-append (omega arith)))

  window_lt : window_at m j < 2 ^ 40
  window_lt = omega (arith, octets j, octets (j + 1), octets (j + 2), octets (j + 3), octets (j + 4))

  window-bits : unpack (octets_of (window_at m j)) ≡ bits_of 40 (window_at m j)
  window-bits = unpack-octets_of (window_at m j) window_lt

  padded-window : window_at (padded m) j ≡ window_at m j
  padded-window = simp padded_at

  padded-back : sets (padded m) j (octets_of (window_at m j)) ≡ padded m
  padded-back =
      sym (with_window-sets (padded m) j (window_at m j))
      ∙ ap (with_window (padded m) j) (sym padded-window)
      ∙ put_back (padded m) (λ i. rw padded_at (octets i)) j

  padded_inside : j + 5 ≤ length (padded m)
  padded_inside = rw length-append (omega arith)

  was-bits : unpack (padded m) ≡ before ++ bits_of 40 (window_at m j) ++ behind
  was-bits =
      ap unpack (sym padded-back)
      ∙ unpack-sets (padded m) j (octets_of (window_at m j)) padded_inside
      ∙ ap (λ b. before ++ b ++ behind) window-bits

-- ---- k bits of the window, s after its first and with t behind them

module _ (m : List ℕ) (octets : (i : ℕ) → get_or m i 0 < 256) (j s k t : ℕ) (all : s + k + t ≡ 40) (fits : 8 * j + s + k ≤ 8 * length m) where
  inside : j ≤ length m
  inside = omega arith

  abbrev bits : List Bool
  bits = bits_of 40 (window_at m j)

  abbrev rest : List Bool
  rest = behind m octets j inside

  abbrev first : List Bool
  first = before m octets j inside

  within : window_at m j < 2 ^ (s + k + t)
  within = rw all (window_lt m octets j inside)

  part_window : take k (drop (8 * j + s) (unpack m)) ≡ take k (drop s bits)
  part_window =
      let l = length_before m octets j inside in
      let enough : 8 * j + s + k ≤ length (first ++ bits) = rw (length-append, l, length-bits_of) (omega arith) in
      sym (part-append (unpack m) (unpack (replicate 5 0)) (8 * j + s) k (rw length-unpack fits))
      ∙ ap (λ b. take k (drop (8 * j + s) b)) (sym (unpack-append m (replicate 5 0)) ∙ was-bits m octets j inside)
      ∙ part-append (first ++ bits) rest (8 * j + s) k enough
      ∙ ap (λ n. take k (drop (n + s) (first ++ bits))) (sym l)
      ∙ ap (take k) (drop-append-add first bits s)

  number-window : number_of (take k (drop (8 * j + s) (unpack m))) ≡ window_at m j / 2 ^ t % 2 ^ k
  number-window = ap number_of part_window ∙ (rw all at (number_of-middle s k t (window_at m j) within))

  module _ (v : ℕ) (hv : v < 2 ^ k) where
    abbrev new : ℕ
    new = placed (window_at m j) t k v

    put-padded-window : unpack (with_window (padded m) j new) ≡ spliced (unpack (padded m)) (8 * j + s) (bits_of k v)
    put-padded-window =
        ap unpack (with_window-sets (padded m) j new)
        ∙ sets-spliced (padded m) j (octets_of (window_at m j)) (octets_of new) s (bits_of k v) (padded-back m octets j inside) refl
        (padded_inside m octets j inside) (rw length-bits_of (omega arith))
        (unpack-octets_of new (rw all at (placed_lt s k t (window_at m j) within v hv))
        ∙ (rw all at (bits_of-placed s k t (window_at m j) within v hv))
        ∙ ap (λ b. spliced b s (bits_of k v)) (sym (window-bits m octets j inside)))

    put-window : unpack (with_window m j new) ≡ spliced (unpack m) (8 * j + s) (bits_of k v)
    put-window =
        let enough : 8 * j + s + length (bits_of k v) ≤ length (unpack m) = rw (length-bits_of, length-unpack) fits in
        let long : length m ≤ length (with_window (padded m) j new) = simp (length-set, length-append) (omega arith) in
        ap unpack (sym (put-padded m j new))
        ∙ unpack-take (length m) (with_window (padded m) j new) long
        ∙ ap (take (8 * length m)) put-padded-window
        ∙ ap (λ b. take (8 * length m) (spliced b (8 * j + s) (bits_of k v))) (unpack-append m (replicate 5 0))
        ∙ ap (take (8 * length m)) (spliced-append (unpack m) (8 * j + s) (bits_of k v) enough (unpack (replicate 5 0)))
        ∙ take_at (spliced (unpack m) (8 * j + s) (bits_of k v)) (unpack (replicate 5 0)) (8 * length m)
        (length-spliced (unpack m) (8 * j + s) (bits_of k v) enough ∙ length-unpack m)

-- ---- k bits from a place on

module _ (m : List ℕ) (octets : (i : ℕ) → get_or m i 0 < 256) (p k : ℕ) (narrow : p % 8 + k ≤ 40) (fits : p + k ≤ 8 * length m) where
  place : 8 * (p / 8) + p % 8 ≡ p
  place = omega arith

  -- the number that they spell is cut out of the window at their first octet
  pub number_in_window : number_of (take k (drop p (unpack m))) ≡ window_at m (p / 8) / 2 ^ (40 - p % 8 - k) % 2 ^ k
  number_in_window = rw place at (number-window m octets (p / 8) (p % 8) k (40 - p % 8 - k) (omega arith) (omega arith))

  -- that window with the bits of v in their place, stored, replaces them and nothing else
  pub put_in_window : (v : ℕ) → v < 2 ^ k
      → unpack (with_window m (p / 8) (placed (window_at m (p / 8)) (40 - p % 8 - k) k v)) ≡ spliced (unpack m) p (bits_of k v)
  put_in_window v hv = rw place at (put-window m octets (p / 8) (p % 8) k (40 - p % 8 - k) (omega arith) (omega arith) v hv)

-- ---- eight bits, s bits into the octet at i

-- n bits further on they are cut out of the window there
pub number_in_five : (m : List ℕ) → ((j : ℕ) → get_or m j 0 < 256) → (i s n t : ℕ) → s < 8 → n + t ≡ 24 → 8 * i + s + n + 8 ≤ 8 * length m
    → number_of (take 8 (drop (8 * i + s + n) (unpack m))) ≡ window_at m i / 2 ^ (8 - s) / 2 ^ t % 256
number_in_five m octets i s n t h e fits =
    let place : 8 * i + (s + n) ≡ 8 * i + s + n = omega arith in
    (rw place at (number-window m octets i (s + n) 8 (8 - s + t) (omega arith) (omega arith)))
    ∙ ap (λ (u : ℕ). window_at m i / u % 256) (pow-add 2 (8 - s) t)
    ∙ ap (λ (u : ℕ). u % 256) (sym (div-div-eq-div-mul (window_at m i) (2 ^ (8 - s)) (2 ^ t)))

-- they are cut out of it and the one after it
pub number_in_pair : (m : List ℕ) → ((j : ℕ) → get_or m j 0 < 256) → (i s : ℕ) → s < 8 → 8 * i + s + 8 ≤ 8 * length m
    → number_of (take 8 (drop (8 * i + s) (unpack m))) ≡ (256 * get_or m i 0 + get_or m (i + 1) 0) / 2 ^ (8 - s) % 256
number_in_pair m octets i s h fits =
    let e : 32 - s ≡ 24 + (8 - s) = omega arith in
    let pw : 2 ^ (32 - s) ≡ 16777216 * 2 ^ (8 - s) = ap (2 ^◌) e ∙ pow-add 2 24 (8 - s) in
    let c = octets (i + 2) in
    let d = octets (i + 3) in
    let f = octets (i + 4) in
    let top : window_at m i / 16777216 ≡ 256 * get_or m i 0 + get_or m (i + 1) 0 = omega arith in
    number-window m octets i s 8 (32 - s) (omega arith) fits
    ∙ ap (λ (u : ℕ). window_at m i / u % 256) pw
    ∙ ap (λ (u : ℕ). u % 256) (sym (div-div-eq-div-mul (window_at m i) 16777216 (2 ^ (8 - s))))
    ∙ ap (λ (u : ℕ). u / 2 ^ (8 - s) % 256) top

-- ---- the last k bits, all of them in the last octet

-- they are its lowest
pub number-last : (m : List ℕ) → ((j : ℕ) → get_or m j 0 < 256) → (k : ℕ) → k ≤ 8 → 0 < length m
    → number_of (drop (8 * length m - k) (unpack m)) ≡ get_or m (length m - 1) 0 % 2 ^ k
number-last m octets k narrow some =
    let i = length m - 1 in
    let b = octets (i + 1) in
    let c = octets (i + 2) in
    let d = octets (i + 3) in
    let f = octets (i + 4) in
    let top : window_at m i / 4294967296 ≡ get_or m i 0 = omega arith in
    let place : 8 * i + (8 - k) ≡ 8 * length m - k = omega arith in
    let rest : length (drop (8 * length m - k) (unpack m)) ≤ k = rw (length-drop, length-unpack) (omega arith) in
    ap number_of (sym (take_all k (drop (8 * length m - k) (unpack m)) rest))
    ∙ (rw place at (number-window m octets i (8 - k) k 32 (omega arith) (omega arith)))
    ∙ ap (λ (u : ℕ). u % 2 ^ k) top

-- ---- k bits of two octets or of one, s after the first and with t behind them

-- two octets are the bits of their number
unpack-pair : (a b : ℕ) → a < 256 → b < 256 → unpack (a ∷ b ∷ []) ≡ bits_of 16 (a * 256 + b)
unfolding unpack
unpack-pair a b ha hb = ap (bits_of 8 a ++◌) (append-nil (bits_of 8 b)) ∙ sym (bits_of-append 8 8 a b ha hb)

-- the two octets with the bits of v in their place, stored, replace them and nothing else
module _ (m : List ℕ) (octets : (j : ℕ) → get_or m j 0 < 256) (i s k t v : ℕ) (all : s + k + t ≡ 16) (inside : i + 1 < length m) (hv : v < 2 ^ k) where
  abbrev pair : ℕ
  pair = 256 * get_or m i 0 + get_or m (i + 1) 0

  abbrev new-pair : ℕ
  new-pair = placed pair t k v

  pub put_in_pair : unpack (set (set m i (new-pair / 256 % 256)) (i + 1) (new-pair % 256)) ≡ spliced (unpack m) (8 * i + s) (bits_of k v)
  put_in_pair =
      let o₀ = octets i in
      let o₁ = octets (i + 1) in
      let next : i + 1 ≡ suc i = omega arith in
      let comm : get_or m i 0 * 256 + get_or m (i + 1) 0 ≡ pair = omega arith in
      let within : pair < 2 ^ (s + k + t) = rw all (omega arith) in
      let lt : new-pair < 2 ^ 16 = rw all at (placed_lt s k t pair within v hv) in
      let digits : new-pair / 256 % 256 * 256 + new-pair % 256 ≡ new-pair = omega arith in
      let was = unpack-pair (get_or m i 0) (get_or m (i + 1) 0) o₀ o₁ ∙ ap (bits_of 16) comm in
      let is = unpack-pair (new-pair / 256 % 256) (new-pair % 256) (omega arith) (omega arith) ∙ ap (bits_of 16) digits in
      let back : sets m i (get_or m i 0 ∷ get_or m (i + 1) 0 ∷ []) ≡ m = rw (← next, set-get_or m i 0) (set-get_or m (i + 1) 0) in
      ap (λ (j : ℕ). unpack (set (set m i (new-pair / 256 % 256)) j (new-pair % 256))) next
      ∙ sets-spliced m i (get_or m i 0 ∷ get_or m (i + 1) 0 ∷ []) (new-pair / 256 % 256 ∷ new-pair % 256 ∷ []) s (bits_of k v) back refl
      (omega arith) (rw length-bits_of (omega arith))
      (is ∙ (rw all at (bits_of-placed s k t pair within v hv)) ∙ ap (λ b. spliced b s (bits_of k v)) (sym was))

-- the octet with the bits of v in their place, stored, replaces them and nothing else
pub put_in_octet : (m : List ℕ) → ((j : ℕ) → get_or m j 0 < 256) → (i s k t v : ℕ) → s + k + t ≡ 8 → i < length m → v < 2 ^ k
    → unpack (set m i (placed (get_or m i 0) t k v % 256)) ≡ spliced (unpack m) (8 * i + s) (bits_of k v)
unfolding unpack
put_in_octet m octets i s k t v all inside hv =
    let o = get_or m i 0 in
    let within : o < 2 ^ (s + k + t) = rw all (octets i) in
    let lt : placed o t k v < 256 = rw all at (placed_lt s k t o within v hv) in
    let same : placed o t k v % 256 ≡ placed o t k v = omega arith in
    let bits = append-nil (bits_of 8 (placed o t k v)) ∙ (rw all at (bits_of-placed s k t o within v hv)) ∙ ap (λ b. spliced b s (bits_of k v)) (sym (append-nil (bits_of 8 o))) in
    rw same
    (sets-spliced m i (o ∷ []) (placed o t k v ∷ []) s (bits_of k v) (set-get_or m i 0) refl (omega arith) (rw length-bits_of (omega arith)) bits)
