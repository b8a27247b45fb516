-- Laws of octets in hexadecimal: one octet more has two digits more.
use Prim.Native.Nat.{ℕ, suc, ◌+◌, ◌*◌, ◌/◌, ◌%◌, ◌<◌}
use mathlib.Core.Path.{◌≡◌, refl, sym, ap, ◌∙◌}
use mathlib.Core.List.{List, [], ◌∷◌, ◌++◌}
use native.Mathlib.Numerals.{add-one}
use native.Mathlib.Omega.{arith}
use native.Mathlib.Nat.{add-zero}
use lib.ListN.{length, get_or, take, drop, set, length-set}
use lib.Seq.{take-suc, get_or-take, get_or-drop, drop-drop, drop-set-lt}
use Rattle.lines.specs.Text.{Appended}
use Rattle.lines.proofs.Texts.{put_both, put-octet}
use Rattle.hexadecimal.specs.Hex.{hex_digit, hex}

hex-append : (xs ys : List ℕ) → hex (xs ++ ys) ≡ hex xs ++ hex ys
unfolding hex
hex-append [] ys = refl
hex-append (x ∷ xs) ys = ap (λ (l : List ℕ). hex_digit (x / 16) ∷ hex_digit (x % 16) ∷ l) (hex-append xs ys)

pub hex_more : (xs : List ℕ) (i : ℕ) → i < length xs → hex (take (i + 1) xs) ≡ hex (take i xs) ++ (hex_digit (get_or xs i 0 / 16) ∷ hex_digit (get_or xs i 0 % 16) ∷ [])
unfolding hex
hex_more xs i h = rw (add-one i, take-suc xs i 0 h, hex-append (take i xs) (get_or xs i 0 ∷ []))

pub length-hex : (xs : List ℕ) → length (hex xs) ≡ 2 * length xs
unfolding hex
length-hex [] = refl
length-hex (x ∷ xs) = omega (arith, length-hex xs)

-- the digits of one octet more are put behind those of the octets before it
pub put-digits : {before out : List ℕ} {at : ℕ} (octets : List ℕ) (i x : ℕ) → i < length octets → at + 2 * i + 1 < length out → x ≡ get_or octets i 0
    → Appended before at (hex (take i octets)) out (at + 2 * i)
    → Appended before at (hex (take (i + 1) octets)) (set (set out (at + 2 * i) (hex_digit (x / 16))) (at + 2 * i + 1) (hex_digit (x % 16))) (at + 2 * (i + 1))
put-digits {before} {out} {at} octets i x h room is p =
    let next : at + 2 * i + 1 ≡ suc (at + 2 * i) = omega arith in
    let end : at + 2 * (i + 1) ≡ suc (suc (at + 2 * i)) = omega arith in
    let first = put-octet out (at + 2 * i) (hex_digit (x / 16)) (omega arith) in
    let second = put-octet (set out (at + 2 * i) (hex_digit (x / 16))) (suc (at + 2 * i)) (hex_digit (x % 16)) (omega (arith, length-set out (at + 2 * i) (hex_digit (x / 16)))) in
    rw (next, end, hex_more octets i h, ← is) (put_both p (put_both first second))

-- ---- the octets that are left

-- the next of them is where it stood
pub next_octet : (out out' : List ℕ) (from count i : ℕ) → i < count → drop (from + i) out' ≡ drop (from + i) out
    → get_or out' (from + i) 0 ≡ get_or (take count (drop from out)) i 0
next_octet out out' from count i h same =
    sym (ap (λ (k : ℕ). get_or out' k 0) (add-zero (from + i))) ∙ sym (get_or-drop (from + i) out' 0 0) ∙ ap (λ (l : List ℕ). get_or l 0 0) same
    ∙ get_or-drop (from + i) out 0 0 ∙ ap (λ (k : ℕ). get_or out k 0) (add-zero (from + i)) ∙ sym (get_or-drop from out i 0) ∙ sym (get_or-take count (drop from out) i 0 h)

-- what is put before them leaves them
pub left_behind : (out out' : List ℕ) (n a b x y : ℕ) → a < n + 1 → b < n + 1 → drop n out' ≡ drop n out → drop (n + 1) (set (set out' a x) b y) ≡ drop (n + 1) out
left_behind out out' n a b x y p q same =
    drop-set-lt (n + 1) (set out' a x) b y q ∙ drop-set-lt (n + 1) out' a x p ∙ sym (drop-drop 1 n out') ∙ ap (drop 1) same ∙ drop-drop 1 n out
