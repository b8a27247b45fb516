-- Laws of decimal notation: the fewest digits that hold a number are its decimal notation.
use Prim.Native.Nat.{ℕ, zero, suc, ◌+◌, ◌-◌, ◌*◌, ◌/◌, ◌%◌, ◌^◌, ◌≤◌, ◌<◌}
use mathlib.Core.Path.{◌≡◌, refl, sym, ap, ◌∙◌}
use mathlib.Core.Bool.{Bool, true, false, cond}
use mathlib.Core.List.{List, [], ◌∷◌, ◌++◌}
use native.Mathlib.Nat.{pow-suc}
use native.Mathlib.Omega.{arith}
use borrow.Author.Tests.{lt-ltb, le-ltb, ltb-true, ltb-false}
use lib.Dec.{ltb}
use lib.ListN.{length, length-append}
use Rattle.io.specs.Digits.{last_digits, hex_digit_ascii, IsDigitCount}
use Rattle.lines.specs.Text.{decimal, decimal_within}

-- a digit below 10 in the notation that has letters too
glyph-digit : (d : ℕ) → d < 10 → hex_digit_ascii d ≡ 48 + d
glyph-digit d h = ap (λ (b : Bool). cond b (48 + d) (87 + d)) (lt-ltb d 10 h)

-- a number is below that power of ten
below_power : (k : ℕ) → k < 10 ^ k
below_power zero = omega arith
below_power (suc k) = omega (arith, below_power k, pow-suc 10 k)

one_digit : (f n : ℕ) → n < 10 → decimal_within (suc f) n ≡ (48 + n) ∷ []
unfolding decimal_within
one_digit f n h = rw (lt-ltb n 10 h)

more_digits : (f n : ℕ) → 10 ≤ n → decimal_within (suc f) n ≡ decimal_within f (n / 10) ++ ((48 + n % 10) ∷ [])
unfolding decimal_within
more_digits f n h = rw (le-ltb n 10 h)

-- room for more digits than there are changes nothing
same_within : (f g n : ℕ) → n < f → n < g → decimal_within f n ≡ decimal_within g n
same_within zero g n h k = absurd (omega arith)
same_within (suc f) zero n h k = absurd (omega arith)
same_within (suc f) (suc g) n h k = go (ltb n 10) refl (λ p q. same_within f g (n / 10) p q)
  where
    go : (b : Bool) → ltb n 10 ≡ b → (n / 10 < f → n / 10 < g → decimal_within f (n / 10) ≡ decimal_within g (n / 10))
        → decimal_within (suc f) n ≡ decimal_within (suc g) n
    go true e shorter = one_digit f n (ltb-true n 10 e) ∙ sym (one_digit g n (ltb-true n 10 e))
    go false e shorter =
        let tens = ltb-false n 10 e in
        more_digits f n tens ∙ ap (λ (x : List ℕ). x ++ ((48 + n % 10) ∷ [])) (shorter (omega arith) (omega arith)) ∙ sym (more_digits g n tens)

-- a number below 10, and any other by its last digit
pub decimal_digit : (n : ℕ) → n < 10 → decimal n ≡ (48 + n) ∷ []
unfolding decimal
decimal_digit n h = one_digit n n h

pub decimal-tens : (n : ℕ) → 10 ≤ n → decimal n ≡ decimal (n / 10) ++ ((48 + n % 10) ∷ [])
unfolding decimal
decimal-tens n h = more_digits n n h ∙ ap (λ (x : List ℕ). x ++ ((48 + n % 10) ∷ [])) (same_within n (suc (n / 10)) (n / 10) (omega arith) (omega arith))

-- a number below a power of ten has as many digits, or fewer
pub few-digits : (k n : ℕ) → n < 10 ^ suc k → length (decimal n) ≤ suc k
few-digits zero n h = rw (decimal_digit n (omega (arith, pow-suc 10 0))) (omega arith)
few-digits (suc k) n h = go (ltb n 10) refl (λ t. few-digits k (n / 10) (omega (arith, pow-suc 10 (suc k))))
  where
    go : (b : Bool) → ltb n 10 ≡ b → (10 ≤ n → length (decimal (n / 10)) ≤ suc k) → length (decimal n) ≤ suc (suc k)
    go true e fewer = rw (decimal_digit n (ltb-true n 10 e)) (omega arith)
    go false e fewer =
        let tens = ltb-false n 10 e in
        rw (decimal-tens n tens, length-append (decimal (n / 10)) ((48 + n % 10) ∷ [])) (omega (arith, fewer tens))

last_digit : (n : ℕ) → hex_digit_ascii (n % 10) ≡ 48 + n % 10
last_digit n = glyph-digit (n % 10) (omega arith)

-- digits that hold a number, none of them a zero in front, are its decimal notation
within : (k f n : ℕ) → k < f → n < 10 ^ suc k → (0 < k → 10 ^ k ≤ n) → decimal_within f n ≡ last_digits 10 (suc k) n
within k zero n h below above = absurd (omega arith)
within zero (suc f) n h below above =
    let e : n % 10 ≡ n = omega (arith, pow-suc 10 0) in
    one_digit f n (omega (arith, pow-suc 10 0)) ∙ ap (λ (d : ℕ). (48 + d) ∷ []) (sym e) ∙ ap (λ (d : ℕ). d ∷ []) (sym (last_digit n))
within (suc k) (suc f) n h below above =
    let least : 10 ^ suc k ≤ n = above (omega arith) in
    let power : 10 ^ suc (suc k) ≡ 10 ^ suc k * 10 = pow-suc 10 (suc k) in
    more_digits f n (omega (arith, pow-suc 10 k, below_power k))
    ∙ ap (λ (x : List ℕ). x ++ ((48 + n % 10) ∷ [])) (within k f (n / 10) (omega arith) (omega arith) (λ p. omega (arith, pow-suc 10 k)))
    ∙ ap (λ (d : ℕ). last_digits 10 (suc k) (n / 10) ++ (d ∷ [])) (sym (last_digit n))

pub decimal-fewest : (n k : ℕ) → IsDigitCount 10 1 n k → decimal n ≡ last_digits 10 k n
unfolding decimal
decimal-fewest n zero h = absurd (omega (arith, h.0))
decimal-fewest n (suc zero) h = within zero (suc n) n (omega arith) h.1 (λ p. absurd (omega arith))
decimal-fewest n (suc (suc k)) h =
    let e : suc (suc k) - 1 ≡ suc k = omega arith in
    let least : 10 ^ suc k ≤ n = rw e at (h.2 (omega arith)) in
    within (suc k) (suc n) n (omega (arith, below_power (suc k))) h.1 (λ p. least)
