-- A number of s + k + t bits in three parts, its top s bits, the k in the middle and its lowest t: what the k spell, and the
-- number with k other bits in their place. Once over the three widths.
use Prim.Native.Nat.{ℕ, ◌+◌, ◌-◌, ◌*◌, ◌^◌, ◌/◌, ◌%◌, ◌≤◌, ◌<◌}
use mathlib.Core.Path.{◌≡◌, sym, ap, ◌∙◌}
use mathlib.Core.List.{◌++◌, append_assoc}
use native.Mathlib.Omega.{arith}
use native.Mathlib.Nat.{mod-lt}
use lib.Arith.{digits_lt}
use lib.Bits.{bit_and, and_high}
use lib.ListN.{take, drop}
use lib.Pow.{pow-add, pow_pos, shr_lt, shl-shr, shr-shr, split, field, high_ones}
use lib.Seq.{take_at, drop_at}
use Rattle.bits.specs.Bits.{number_of, bits_of}
use Rattle.window.specs.Window.{placed}
use Rattle.bits.proofs.Bits.{length-bits_of, number_of-bits_of, bits_of-append}
use Rattle.bits.proofs.Splice.{spliced, spliced-between}

joined_lt : (a b x y : ℕ) → x < 2 ^ a → y < 2 ^ b → x * 2 ^ b + y < 2 ^ (a + b)
joined_lt a b x y hx hy = rw (pow-add 2 a b) (digits_lt hx hy)

-- three numbers joined
bits_of-joined : (s k t h x l : ℕ) → h < 2 ^ s → x < 2 ^ k → l < 2 ^ t
    → bits_of (s + k + t) ((h * 2 ^ k + x) * 2 ^ t + l) ≡ bits_of s h ++ bits_of k x ++ bits_of t l
bits_of-joined s k t h x l hh hx hl =
    bits_of-append (s + k) t (h * 2 ^ k + x) l (joined_lt s k h x hh hx) hl
    ∙ ap (λ b. b ++ bits_of t l) (bits_of-append s k h x hh hx)

module _ (s k t w : ℕ) (hw : w < 2 ^ (s + k + t)) where
  abbrev top : ℕ
  top = w / 2 ^ t / 2 ^ k

  abbrev middle : ℕ
  middle = w / 2 ^ t % 2 ^ k

  abbrev lowest : ℕ
  lowest = w % 2 ^ t

  top_lt : top < 2 ^ s
  top_lt = shr_lt s k (shr_lt (s + k) t hw)

  middle_lt : middle < 2 ^ k
  middle_lt = mod-lt (w / 2 ^ t) (pow_pos k)

  lowest_lt : lowest < 2 ^ t
  lowest_lt = mod-lt w (pow_pos t)

  bits_of-parts : bits_of (s + k + t) w ≡ bits_of s top ++ bits_of k middle ++ bits_of t lowest
  bits_of-parts =
      ap (bits_of (s + k + t)) (sym (split w t) ∙ ap (λ (y : ℕ). y * 2 ^ t + lowest) (sym (split (w / 2 ^ t) k)))
      ∙ bits_of-joined s k t top middle lowest top_lt middle_lt lowest_lt

  -- what the k in the middle spell
  pub number_of-middle : number_of (take k (drop s (bits_of (s + k + t) w))) ≡ w / 2 ^ t % 2 ^ k
  number_of-middle =
      rw (
        bits_of-parts,
        append_assoc (bits_of s top) (bits_of k middle) (bits_of t lowest),
        drop_at (bits_of s top) (bits_of k middle ++ bits_of t lowest) s (length-bits_of s top),
        take_at (bits_of k middle) (bits_of t lowest) k (length-bits_of k middle),
      )
      (number_of-bits_of k middle middle_lt)

  module _ (v : ℕ) (hv : v < 2 ^ k) where
    pub placed_lt : placed w t k v < 2 ^ (s + k + t)
    placed_lt = joined_lt (s + k) t (top * 2 ^ k + v) lowest (joined_lt s k top v top_lt hv) lowest_lt

    -- the bits of the number with those of v in the middle
    pub bits_of-placed : bits_of (s + k + t) (placed w t k v) ≡ spliced (bits_of (s + k + t) w) s (bits_of k v)
    bits_of-placed =
        bits_of-joined s k t top v lowest top_lt hv lowest_lt
        ∙ sym
        (ap (λ b. spliced b s (bits_of k v)) bits_of-parts
        ∙ spliced-between (bits_of s top) (bits_of k middle) (bits_of t lowest) (bits_of k v) s (length-bits_of s top)
        (length-bits_of k middle ∙ sym (length-bits_of k v)))

-- a number of 40 bits with k replaced stays below 2 ^ 40
pub placed_fits : (w t k v : ℕ) → v < 2 ^ k → w < 2 ^ 40 → k + t ≤ 40 → placed w t k v < 2 ^ 40
placed_fits w t k v hv hw h =
    let all : 40 - (k + t) + k + t ≡ 40 = omega arith in
    rw all at (placed_lt (40 - (k + t)) k t w (rw all hw) v hv)

-- the k bits cleared by a mask, and v put there
pub placed-masked : (w t k v : ℕ) → w - bit_and w ((2 ^ k - 1) * 2 ^ t) + v * 2 ^ t ≡ placed w t k v
placed-masked w t k v =
    let upper = ap (λ (y : ℕ). y * 2 ^ t) (split (w / 2 ^ t) k) in
    let whole = split w t in
    rw (← high_ones k t, and_high w k t) (omega arith)

-- the k bits of 40 that follow the first i: shifted up, they lose the bits before them, and down those behind
pub cut-shifted : (w i k : ℕ) → i < 8 → k ≤ 32 → (w * 2 ^ (24 + i)) % 2 ^ 64 / 2 ^ (64 - k) ≡ w / 2 ^ (40 - i - k) % 2 ^ k
cut-shifted w i k hi hk =
    let n = w * 2 ^ (24 + i) in
    let b = 40 - i - k in
    let whole : 64 ≡ k + (64 - k) = omega arith in
    let down : 64 - k ≡ (24 + i) + b = omega arith in
    ap (λ x. n % 2 ^ x / 2 ^ (64 - k)) whole
    ∙ field n k (64 - k)
    ∙ ap (λ x. n / 2 ^ x % 2 ^ k) down
    ∙ ap (λ x. x % 2 ^ k) (sym (shr-shr n (24 + i) b) ∙ ap (λ x. x / 2 ^ b) (shl-shr w (24 + i)))
