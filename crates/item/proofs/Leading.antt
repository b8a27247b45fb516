-- Laws of the leading bits of an item of whole octets, c ones and a zero: how many there are, and what they are worth.
use Prim.Native.Nat.{ℕ, zero, suc, ◌+◌, ◌-◌, ◌*◌, ◌^◌, ◌≤◌, ◌<◌, min}
use mathlib.Core.Bool.{Bool, true, false}
use mathlib.Core.Path.{◌≡◌, refl, sym, ap, ap₂, ◌∙◌}
use mathlib.Core.List.{List, [], ◌∷◌, ◌++◌}
use native.Mathlib.Omega.{arith}
use native.Mathlib.Nat.{pow-succ'}
use lib.ListN.{length, take, drop}
use lib.Pow.{pow_pos}
use lib.Seq.{length-take-le, take-append-add}
use borrow.Author.Tests.{le-leb, lt-leb}
use Rattle.bits.specs.Bits.{number_of, bits_of}
use Rattle.bits.proofs.Bits.{bits_of-number_of, number_of-append, bits_of-append}
use Rattle.item.specs.Code.{leading, spelling, ones_up_to}
use Rattle.item.specs.Steps.{leading_worth}
use Rattle.item.proofs.CodeLaws.{length-leading, leading-split}

-- ── how many ones stand in front ──

pub ones-le : (top : ℕ) (b : List Bool) → ones_up_to top b ≤ top
ones-le zero b = omega arith
ones-le (suc t) [] = omega arith
ones-le (suc t) (false ∷ b) = omega arith
ones-le (suc t) (true ∷ b) = omega (arith, ones-le t b)

-- counted up to fewer
pub ones-fewer : (s t : ℕ) (b : List Bool) → s ≤ t → ones_up_to s b ≡ min s (ones_up_to t b)
ones-fewer zero t b h = omega arith
ones-fewer (suc s) zero b h = absurd (omega arith)
ones-fewer (suc s) (suc t) [] h = omega arith
ones-fewer (suc s) (suc t) (false ∷ b) h = omega arith
ones-fewer (suc s) (suc t) (true ∷ b) h = omega (arith, ones-fewer s t b (omega arith))

ones-take : (top k : ℕ) (b : List Bool) → top ≤ k → ones_up_to top (take k b) ≡ ones_up_to top b
ones-take zero k b h = refl
ones-take (suc t) zero b h = absurd (omega arith)
ones-take (suc t) (suc k) [] h = refl
ones-take (suc t) (suc k) (false ∷ b) h = refl
ones-take (suc t) (suc k) (true ∷ b) h = ap suc (ones-take t k b (omega arith))

-- the first k bits as a number tell
pub ones-front : (top k : ℕ) (b : List Bool) → top ≤ k → k ≤ length b → ones_up_to top (bits_of k (number_of (take k b))) ≡ ones_up_to top b
ones-front top k b h l =
    let e : bits_of k (number_of (take k b)) ≡ take k b = rw (length-take-le k b l) at (bits_of-number_of (take k b)) in
    rw e (ones-take top k b h)

-- the top bit of a number is clear, or set
pub ones-clear : (t k n : ℕ) → n < 2 ^ k → ones_up_to (suc t) (bits_of (suc k) n) ≡ 0
unfolding bits_of
ones-clear t k n h = rw (lt-leb (2 ^ k) n h)

pub ones-set : (t k n : ℕ) → 2 ^ k ≤ n → ones_up_to (suc t) (bits_of (suc k) n) ≡ suc (ones_up_to t (bits_of k (n - 2 ^ k)))
unfolding bits_of
ones-set t k n h = rw (le-leb (2 ^ k) n h)

-- ── what the leading bits are worth ──

number_of-leading : (c : ℕ) → number_of (leading c) ≡ 2 ^ suc c - 2
unfolding number_of
number_of-leading zero = refl
number_of-leading (suc c) =
    let p = pow-succ' 2 c in
    rw (length-leading c, number_of-leading c, pow-succ' 2 (suc c)) (omega (arith, pow_pos c))

-- the leading bits and those after them as one number
pub spelling-bits : (c m : ℕ) → m < 2 ^ (7 * suc c) → spelling c m ≡ bits_of (8 * suc c) (leading_worth c + m)
unfolding leading_worth
spelling-bits c m h =
    let l : bits_of (suc c) (2 ^ suc c - 2) ≡ leading c = ap₂ bits_of (sym (length-leading c)) (sym (number_of-leading c)) ∙ bits_of-number_of (leading c) in
    let k : suc c + 7 * suc c ≡ 8 * suc c = omega arith in
    ap (◌++ bits_of (7 * suc c) m) (sym l) ∙ sym (bits_of-append (suc c) (7 * suc c) (2 ^ suc c - 2) m (omega (arith, pow_pos (suc c))) h)
    ∙ ap (λ j. bits_of j ((2 ^ suc c - 2) * 2 ^ (7 * suc c) + m)) k

module _ (top : ℕ) (b : List Bool) (ones : ones_up_to top b < top) (room : top ≤ length b) where
  abbrev c : ℕ
  c = ones_up_to top b

  abbrev after : List Bool
  after = drop (suc c) b

  -- the first bits as a number, by those after the ones
  pub number_of-spelt : 7 * suc c ≤ length after → number_of (take (8 * suc c) b) ≡ leading_worth c + number_of (take (7 * suc c) after)
  unfolding leading_worth
  number_of-spelt h =
      let k : 8 * suc c ≡ length (leading c) + 7 * suc c = rw length-leading (omega arith) in
      let t : take (8 * suc c) b ≡ leading c ++ take (7 * suc c) after =
      ap₂ take k (leading-split top b ones room) ∙ take-append-add (leading c) after (7 * suc c) in
      rw (t, number_of-append, length-take-le (7 * suc c) after h, number_of-leading c)
