-- Laws of what the octets of a capture begin with: a whole header or record lies within them, and what follows changes neither it nor a
-- wrong one.
use Prim.Native.Nat.{ℕ, ◌+◌, ◌≤◌, ◌<◌}
use mathlib.Core.Bool.{Bool, true, false, cond, ◌||◌}
use mathlib.Core.Path.{◌≡◌, refl, sym, ap}
use mathlib.Core.List.{List, ◌++◌}
use native.Mathlib.Omega.{arith}
use borrow.Author.Tests.{lt-ltb, le-ltb, ltb-true, ltb-false}
use lib.Dec.{ltb}
use lib.ListN.{length, length-append, get_or-append}
use Rattle.machine.specs.declared.Front.TheVariants.{Whole, Part, Wrong}
use Rattle.pcap.specs.declared.Order.{Order}
use Rattle.pcap.specs.declared.Order.TheVariants.{Little, Big}
use Rattle.pcap.specs.Pcap.{word, headed, kept, file_front, record_front}

word-append : (order : Order) (s rest : List ℕ) (o : ℕ) → o + 3 < length s → word order (s ++ rest) o ≡ word order s o
unfolding word
word-append Little s rest o h = rw (get_or-append s rest 0 o (omega arith), get_or-append s rest 0 (o + 1) (omega arith), get_or-append s rest 0 (o + 2) (omega arith), get_or-append s rest 0 (o + 3) h)
word-append Big s rest o h = rw (get_or-append s rest 0 o (omega arith), get_or-append s rest 0 (o + 1) (omega arith), get_or-append s rest 0 (o + 2) (omega arith), get_or-append s rest 0 (o + 3) h)

headed-append : (order : Order) (s rest : List ℕ) → 24 ≤ length s → headed order (s ++ rest) ≡ headed order s
headed-append order s rest h = rw (word-append order s rest 0 (omega arith), word-append order s rest 20 (omega arith))

-- ---- the file's header

-- once there are as many octets as a header has, nothing behind them counts
file-append : (s rest : List ℕ) → 24 ≤ length s → file_front (s ++ rest) ≡ file_front s
file-append s rest h =
    rw (le-ltb (length (s ++ rest)) 24 (omega (arith, length-append s rest)), le-ltb (length s) 24 h, headed-append Little s rest h, headed-append Big s rest h)

pub file_whole : (s : List ℕ) (n : ℕ) → file_front s ≡ Whole n → (24 ≤ length s) × (n ≡ 24)
file_whole s n e = go (ltb (length s) 24) (headed Little s || headed Big s) refl e
  where
    go : (a b : Bool) → ltb (length s) 24 ≡ a → cond a Part (cond b (Whole 24) Wrong) ≡ Whole n → (24 ≤ length s) × (n ≡ 24)
    go true b p e = let z : ◌≡◌ {A = ℕ} 0 1 = cc in absurd (omega arith)
    go false true p e = (ltb-false (length s) 24 p, let k : 24 ≡ n = cc in sym k)
    go false false p e = let z : ◌≡◌ {A = ℕ} 0 1 = cc in absurd (omega arith)

file-wrong : (s : List ℕ) → file_front s ≡ Wrong → 24 ≤ length s
file-wrong s e = go (ltb (length s) 24) (headed Little s || headed Big s) refl e
  where
    go : (a b : Bool) → ltb (length s) 24 ≡ a → cond a Part (cond b (Whole 24) Wrong) ≡ Wrong → 24 ≤ length s
    go true b p e = let z : ◌≡◌ {A = ℕ} 0 1 = cc in absurd (omega arith)
    go false b p e = ltb-false (length s) 24 p

pub file-stays : (s rest : List ℕ) (n : ℕ) → file_front s ≡ Whole n → file_front (s ++ rest) ≡ Whole n
file-stays s rest n e = rw (file-append s rest (file_whole s n e).0) e

pub file-stays-wrong : (s rest : List ℕ) → file_front s ≡ Wrong → file_front (s ++ rest) ≡ Wrong
file-stays-wrong s rest e = rw (file-append s rest (file-wrong s e)) e

-- ---- a record

pub record_whole : (order : Order) (s : List ℕ) (n : ℕ) → record_front order s ≡ Whole n
    → (16 ≤ length s) × (kept order s ≤ 2048) × (16 + kept order s ≤ length s) × (n ≡ 16 + kept order s)
record_whole order s n e = go (ltb (length s) 16) (ltb 2048 (kept order s)) (ltb (length s) (16 + kept order s)) refl refl refl e
  where
    go : (a b c : Bool) → ltb (length s) 16 ≡ a → ltb 2048 (kept order s) ≡ b → ltb (length s) (16 + kept order s) ≡ c
        → cond a Part (cond b Wrong (cond c Part (Whole (16 + kept order s)))) ≡ Whole n
        → (16 ≤ length s) × (kept order s ≤ 2048) × (16 + kept order s ≤ length s) × (n ≡ 16 + kept order s)
    go true b c p q r e = let z : ◌≡◌ {A = ℕ} 0 1 = cc in absurd (omega arith)
    go false true c p q r e = let z : ◌≡◌ {A = ℕ} 0 1 = cc in absurd (omega arith)
    go false false true p q r e = let z : ◌≡◌ {A = ℕ} 0 1 = cc in absurd (omega arith)
    go false false false p q r e =
        let k : 16 + kept order s ≡ n = cc in
        (ltb-false (length s) 16 p, ltb-false 2048 (kept order s) q, ltb-false (length s) (16 + kept order s) r, sym k)

record-wrong : (order : Order) (s : List ℕ) → record_front order s ≡ Wrong → (16 ≤ length s) × (2048 < kept order s)
record-wrong order s e = go (ltb (length s) 16) (ltb 2048 (kept order s)) (ltb (length s) (16 + kept order s)) refl refl e
  where
    go : (a b c : Bool) → ltb (length s) 16 ≡ a → ltb 2048 (kept order s) ≡ b
        → cond a Part (cond b Wrong (cond c Part (Whole (16 + kept order s)))) ≡ Wrong → (16 ≤ length s) × (2048 < kept order s)
    go true b c p q e = let z : ◌≡◌ {A = ℕ} 0 1 = cc in absurd (omega arith)
    go false true c p q e = (ltb-false (length s) 16 p, ltb-true 2048 (kept order s) q)
    go false false true p q e = let z : ◌≡◌ {A = ℕ} 0 1 = cc in absurd (omega arith)
    go false false false p q e = let z : ◌≡◌ {A = ℕ} 0 1 = cc in absurd (omega arith)

kept_append : (order : Order) (s rest : List ℕ) → 16 ≤ length s → kept order (s ++ rest) ≡ kept order s
kept_append order s rest h = word-append order s rest 8 (omega arith)

pub record-stays : (order : Order) (s rest : List ℕ) (n : ℕ) → record_front order s ≡ Whole n → record_front order (s ++ rest) ≡ Whole n
record-stays order s rest n e =
    let k = record_whole order s n e in
    let many = length-append s rest in
    rw (le-ltb (length (s ++ rest)) 16 (omega (arith, k.0)), kept_append order s rest k.0, le-ltb 2048 (kept order s) k.1, le-ltb (length (s ++ rest)) (16 + kept order s) (omega (arith, k.2)))
    (ap Whole (sym k.3))

pub record-stays-wrong : (order : Order) (s rest : List ℕ) → record_front order s ≡ Wrong → record_front order (s ++ rest) ≡ Wrong
record-stays-wrong order s rest e =
    let k = record-wrong order s e in
    rw (le-ltb (length (s ++ rest)) 16 (omega (arith, k.0, length-append s rest)), kept_append order s rest k.0, lt-ltb 2048 (kept order s) k.1)
