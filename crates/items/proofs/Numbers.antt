-- A message or a list is refused with a number from 2 on and below 20: those of a table's own refusals are others.
-- Assumes nothing.
use Prim.Native.Nat.{ℕ, zero, suc, ◌-◌, ◌*◌, ◌≤◌, ◌<◌, min}
use mathlib.Core.Bool.{Bool, true, false, ◌&&◌, ◌||◌, and-eq-true_iff}
use mathlib.Core.Path.{◌≡◌, refl, subst}
use mathlib.Core.List.{List, [], ◌∷◌}
use native.Mathlib.Omega.{arith}
use lib.Dec.{leb, eqb}
use lib.IntN.{ℤ}
use lib.ListN.{length}
use borrow.Author.Tests.{leb-true, eqb-true}
use Rattle.answer.specs.Numbers.{refusal_at}
use Rattle.answer.specs.declared.Refusal.{Refusal}
use Rattle.bits.specs.Access.{most_octets}
use Rattle.item.specs.Code.{allows, value_bits}
use Rattle.items.specs.Items.{Items, stop, ask}
use Rattle.items.specs.Reading.{refuse, read_message}
use Rattle.items.specs.Numbered.{of_reading}
use Rattle.items.specs.Writing.{Writing, spelt, halted, unless, behind, write_items, WriteOutcome, written, unwritten, close_write, encode}
use Rattle.items.proofs.Numbered.{reading-numbered}

-- a number that a message or a list may be refused with
abbrev pub OfMessage : ℕ → Type 0
OfMessage n = (2 ≤ n) × (n < 20)

-- ── reading ──

reading_of : (n : ℕ) → of_reading n ≡ true → OfMessage n
unfolding of_reading
reading_of n h = go (leb 2 n && leb n 9) refl h
  where
    go : (b : Bool) → leb 2 n && leb n 9 ≡ b → b || eqb n 13 ≡ true → OfMessage n
    go true e h =
        let x = (and-eq-true_iff (leb 2 n) (leb n 9)).0 e in
        (leb-true 2 n x.0, omega (arith, leb-true n 9 x.1))
    go false e h = let z = eqb-true n 13 h in (omega arith, omega arith)

pub read_of : (p : Items) (s : List ℕ) (room n place : ℕ) → read_message p s room ≡ refuse (refusal_at n place) → OfMessage n
read_of p s room n place e = reading_of n (reading-numbered.numbered p s room n place e)

-- ── writing ──

abbrev OfWriting : Writing → Type 0
OfWriting (spelt b vs) = Unit {0}
OfWriting (halted r) = OfMessage r.number

unless_of : (b : Bool) (r : Refusal) (w : Writing) → OfMessage r.number → OfWriting w → OfWriting (unless b r w)
unless_of true r w h k = k
unless_of false r w h k = h

behind_of : (a : List Bool) (w : Writing) → OfWriting w → OfWriting (behind a w)
behind_of a (spelt b vs) h = tt
behind_of a (halted r) h = h

values_of : (p : Items) (vs : List ℤ) (room i : ℕ) → OfWriting (write_items p vs room i)
values_of stop vs room i = tt
values_of (ask c k) [] room i = (omega arith, omega arith)
values_of (ask c k) (v ∷ vs) room i =
    let after = write_items (k v) vs (room - length (value_bits c v)) (suc i) in
    let fitting = unless (leb (length (value_bits c v)) room) (refusal_at 8 i) (behind (value_bits c v) after) in
    unless_of (allows c v) (refusal_at 12 i) fitting (omega arith, omega arith)
    (unless_of (leb (length (value_bits c v)) room) (refusal_at 8 i) (behind (value_bits c v) after) (omega arith, omega arith)
    (behind_of (value_bits c v) after (values_of (k v) vs (room - length (value_bits c v)) (suc i))))

abbrev OfWrite : WriteOutcome → Type 0
OfWrite (written s) = Unit {0}
OfWrite (unwritten r) = OfMessage r.number

end_of : (n cap : ℕ) (w : Writing) → OfWriting w → OfWrite (close_write n cap w)
end_of n cap (halted r) h = h
end_of n cap (spelt b (v ∷ vs)) h = (omega arith, omega arith)
end_of n zero (spelt b []) h = (omega arith, omega arith)
end_of n (suc cap) (spelt b []) h = tt

pub encode_of : (p : Items) (vs : List ℤ) (cap : ℕ) (r : Refusal) → encode p vs cap ≡ unwritten r → OfMessage r.number
encode_of p vs cap r e = subst (λ (x : WriteOutcome). OfWrite x) e (end_of (length vs) cap (write_items p vs (8 * min cap most_octets) 0) (values_of p vs (8 * min cap most_octets) 0))
