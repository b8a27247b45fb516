-- Laws of numbers as octets, the lowest first.
use Prim.Native.Nat.{ℕ, zero, suc, ◌+◌, ◌*◌, ◌/◌, ◌%◌, ◌≤◌, ◌<◌, ◌^◌}
use mathlib.Core.Path.{◌≡◌, refl, ap}
use mathlib.Core.List.{List, [], ◌∷◌}
use native.Mathlib.Omega.{arith}
use native.Mathlib.Nat.{pow-succ'}
use lib.ListN.{length, get_or, take, drop}
use lib.Seq.{drop-cons}
use Rattle.std.specs.Int.{w64, to_le_bytes, from_le_bytes}
use Rattle.values.specs.Values.{little_endian, little_number}

pub length-little_endian : (k n : ℕ) → length (little_endian k n) ≡ k
length-little_endian zero n = refl
length-little_endian (suc k) n = ap suc (length-little_endian k (n / 256))

pub little_endian_lt : (k n i : ℕ) → get_or (little_endian k n) i 0 < 256
little_endian_lt zero n i = omega arith
little_endian_lt (suc k) n zero = omega arith
little_endian_lt (suc k) n (suc i) = little_endian_lt k (n / 256) i

-- a number that fits k octets comes back
pub little_number-little_endian : (k n : ℕ) → n < 256 ^ k → little_number (little_endian k n) ≡ n
little_number-little_endian zero n h = omega arith
little_number-little_endian (suc k) n h =
    let e = little_number-little_endian k (n / 256) (omega arith) in
    omega arith

-- octets spell a number that fits as many of them
pub little_number_lt : (o : List ℕ) → ((i : ℕ) → get_or o i 0 < 256) → little_number o < 256 ^ length o
little_number_lt [] f = omega arith
little_number_lt (x ∷ o) f = rw (pow-succ' 256 (length o)) (omega (arith, f 0, little_number_lt o (λ i. f (suc i))))

-- and come back from it
pub little_endian-little_number : (o : List ℕ) → ((i : ℕ) → get_or o i 0 < 256) → little_endian (length o) (little_number o) ≡ o
little_endian-little_number [] f = refl
little_endian-little_number (x ∷ o) f =
    let low : (x + 256 * little_number o) % 256 ≡ x = omega (arith, f 0) in
    let high : (x + 256 * little_number o) / 256 ≡ little_number o = omega (arith, f 0) in
    rw (low, high) (ap (λ (r : List ℕ). x ∷ r) (little_endian-little_number o (λ i. f (suc i))))

-- four octets of more, one by one
pub take-drop-four : (o : List ℕ) (at k : ℕ) → at + 4 ≤ length o
    → take (suc (suc (suc (suc k)))) (drop at o)
    ≡ get_or o at 0 ∷ (get_or o (at + 1) 0 ∷ (get_or o (at + 2) 0 ∷ (get_or o (at + 3) 0 ∷ take k (drop (at + 4) o))))
take-drop-four o at k h =
    let e1 : at + 1 ≡ suc at = omega arith in
    let e2 : at + 2 ≡ suc (suc at) = omega arith in
    let e3 : at + 3 ≡ suc (suc (suc at)) = omega arith in
    let e4 : at + 4 ≡ suc (suc (suc (suc at))) = omega arith in
    rw (e1, e2, e3, e4, drop-cons o at 0 (omega arith), drop-cons o (suc at) 0 (omega arith), drop-cons o (suc (suc at)) 0 (omega arith), drop-cons o (suc (suc (suc at))) 0 (omega arith))

-- the library writes a number's octets in this order, and reads them so
pub to_le_bytes-little_endian : (n : ℕ) → to_le_bytes w64 n ≡ little_endian 8 n
to_le_bytes-little_endian n =
    let d2 : n / 65536 ≡ n / 256 / 256 = omega arith in
    let d3 : n / 16777216 ≡ n / 256 / 256 / 256 = omega arith in
    let d4 : n / 4294967296 ≡ n / 256 / 256 / 256 / 256 = omega arith in
    let d5 : n / 1099511627776 ≡ n / 256 / 256 / 256 / 256 / 256 = omega arith in
    let d6 : n / 281474976710656 ≡ n / 256 / 256 / 256 / 256 / 256 / 256 = omega arith in
    let d7 : n / 72057594037927936 ≡ n / 256 / 256 / 256 / 256 / 256 / 256 / 256 = omega arith in
    rw (d2, d3, d4, d5, d6, d7) refl

-- the library reads eight octets so, given one by one
pub from_le_bytes-little_number : (o : List ℕ) (at : ℕ) → at + 8 ≤ length o
    → from_le_bytes w64 (get_or o at 0 ∷ get_or o (at + 1) 0 ∷ get_or o (at + 2) 0 ∷ get_or o (at + 3) 0 ∷ get_or o (at + 4) 0 ∷ get_or o (at + 5) 0 ∷ get_or o (at + 6) 0 ∷ get_or o (at + 7) 0 ∷ [])
    ≡ little_number (take 8 (drop at o))
from_le_bytes-little_number o at h =
    let e5 : at + 4 + 1 ≡ at + 5 = omega arith in
    let e6 : at + 4 + 2 ≡ at + 6 = omega arith in
    let e7 : at + 4 + 3 ≡ at + 7 = omega arith in
    rw (take-drop-four o at 4 (omega arith), take-drop-four o (at + 4) 0 (omega arith), e5, e6, e7) (omega arith)
