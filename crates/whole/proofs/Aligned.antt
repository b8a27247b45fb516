-- Items whose bits are whole octets, read from an octet's first bit on, leave a reader at another's.
-- Assumes nothing.
use Prim.Native.Nat.{ℕ, zero, suc, ◌+◌, ◌-◌, ◌*◌, ◌%◌, ◌^◌, ◌≤◌}
use mathlib.Core.Bool.{true}
use mathlib.Core.Path.{◌≡◌, refl, sym, ap, ◌∙◌}
use mathlib.Core.List.{List, [], ◌∷◌}
use native.Mathlib.Omega.{arith}
use lib.IntN.{ℤ, pos, ◌-ℤ◌}
use lib.ListN.{length, drop, length-append}
use Rattle.bits.specs.Bits.{width, unpack}
use Rattle.bits.proofs.Bits.{length-bits_of}
use Rattle.item.specs.Code.{Code, number, variable, length_within, allows, value_bits, spelling, base, variable_ones, length_ones, natural}
use Rattle.item.proofs.CodeLaws.{length-leading}
use Rattle.item.proofs.Widths.{item-widths}
use Rattle.items.specs.Items.{Items, stop, ask, ◌then◌, one, times, Allows, encoding_bits}
use Rattle.items.specs.Reading.{Reading, done, stuck, read_items}
use Rattle.items.specs.Walk.{walk, forget}
use Rattle.items.proofs.ReadItems.{read-sound}
use Rattle.whole.specs.Sized.{number_sized}
use Rattle.whole.proofs.Cut.{width-octets}
use Rattle.read_steps.specs.Reads.{State, cursor_at, step_of, Reads, Step}
use Rattle.read_steps.specs.declared.Cursor.{Cursor}
use Rattle.std.proofs.Common.{Ok}

-- with r bits before them, items end with an octet
abbrev EndsOctet : ℕ → Items → Type 0
EndsOctet r stop = r % 8 ≡ 0
EndsOctet r (ask c k) = (v : ℤ) → allows c v ≡ true → EndsOctet (r + length (value_bits c v)) (k v)

-- items that end with an octet where they begin with one
pub record Whole (p : Items) : Type 0 where
  pub ends : (r : ℕ) → r % 8 ≡ 0 → EndsOctet r p

ends_at : (p : Items) (r : ℕ) (vs : List ℤ) → EndsOctet r p → Allows p vs → (r + length (encoding_bits p vs)) % 8 ≡ 0
ends_at stop r [] h a = omega arith
ends_at stop r (v ∷ vs) h a = absurd a
ends_at (ask c k) r [] h a = absurd a
ends_at (ask c k) r (v ∷ vs) h a =
    let rest = ends_at (k v) (r + length (value_bits c v)) vs (h v a.0) a.1 in
    rw length-append (omega arith)

-- ── the pieces ──

pub whole_stop : Whole stop
whole_stop = record { ends = λ r h. h }

ends-then : (p q : Items) (r : ℕ) → EndsOctet r p → Whole q → EndsOctet r (p then q)
ends-then stop q r h w = w.ends r h
ends-then (ask c k) q r h w = λ v a. ends-then (k v) q (r + length (value_bits c v)) (h v a) w

pub whole_then : {p q : Items} → Whole p → Whole q → Whole (p then q)
whole_then {p} {q} a b = record { ends = λ r h. ends-then p q r (a.ends r h) b }

pub whole_times : {p : Items} (n : ℕ) → Whole p → Whole (times n p)
unfolding times
whole_times zero w = whole_stop
whole_times (suc n) w = whole_then w (whole_times n w)

pub whole_ask : (c : Code) (k : ℤ → Items) → ((v : ℤ) → length (value_bits c v) % 8 ≡ 0) → ((v : ℤ) → Whole (k v)) → Whole (ask c k)
whole_ask c k l w = record { ends = λ r h v a. (w v).ends (r + length (value_bits c v)) (omega (arith, l v)) }

pub whole_one : (c : Code) → ((v : ℤ) → length (value_bits c v) % 8 ≡ 0) → Whole (one c)
unfolding one
whole_one c l = whole_ask c (λ v. stop) l (λ v. whole_stop)

-- two items of a width each
pub whole_pair : (low low' : ℤ) (span span' : ℕ) → (width span + width span') % 8 ≡ 0 → Whole (one (number low span) then one (number low' span'))
unfolding one
whole_pair low low' span span' e =
    record { ends = λ r h v a w b. omega (arith, item-widths.numbers low v span, item-widths.numbers low' w span') }

-- ── the items ──

pub number-octets : (low : ℤ) (span : ℕ) → width span % 8 ≡ 0 → (v : ℤ) → length (value_bits (number low span) v) % 8 ≡ 0
number-octets low span e v = rw (item-widths.numbers low v span) e

spelling-octets : (c m : ℕ) → length (spelling c m) % 8 ≡ 0
spelling-octets c m = rw (length-append, length-leading, length-bits_of) (omega arith)

pub variable-octets : (v : ℤ) → length (value_bits variable v) % 8 ≡ 0
variable-octets v = let n = natural (v -ℤ pos 0) in spelling-octets (variable_ones n) (n - base (variable_ones n))

pub length-octets : (least most : ℕ) (v : ℤ) → length (value_bits (length_within least most) v) % 8 ≡ 0
length-octets least most v = let n = natural (v -ℤ pos 0) in spelling-octets (length_ones n) n

-- an octet
pub whole_octet : Whole (one (number (pos 0) 255))
unfolding width
whole_octet = whole_one (number (pos 0) 255) (number-octets (pos 0) 255 refl)

-- a number that is so many octets
pub whole_number : (n : ℕ) → 1 ≤ n → n ≤ 2 → Whole (number_sized n)
whole_number n l h = whole_one (number (pos 0) (2 ^ (8 * n) - 1)) (number-octets (pos 0) (2 ^ (8 * n) - 1) (rw (width-octets n l h) (omega arith)))

-- ── a reader ──

-- that read such items from an octet's first bit on
pub aligned_after : {p : Items} {message : List ℕ} {room : ℕ} {from : State} {values : List ℤ} {packed : List ℕ} {step : Step} {c : Cursor}
    → Whole p → from.cursor.place.0 % 8 ≡ 0 → Reads message room p from values packed step → step ≡ Ok c → c.place.0 % 8 ≡ 0
unfolding walk
aligned_after {p} {message} {room} {from} {c = c} w h r e = go (read_items p (drop at (unpack message)) (room - from.cursor.count) at) refl (sym e ∙ r.agrees.answer)
  where
    at : ℕ
    at = from.cursor.place.0

    go : (x : Reading) → read_items p (drop at (unpack message)) (room - from.cursor.count) at ≡ x → Ok c ≡ step_of from.cursor.count (forget x) → c.place.0 % 8 ≡ 0
    go (stuck refusal) q s = let z : ◌≡◌ {A = ℕ} 0 1 = cc in absurd (omega arith)
    go (done vs n b) q s =
        let so = read-sound p (drop at (unpack message)) (room - from.cursor.count) at vs n b q in
        let ec : c ≡ cursor_at n (from.cursor.count + length vs) = cc in
        let ep : c.place.0 ≡ n = ap (λ (x : Cursor). x.place.0) ec in
        rw (ep, so.ends) (ends_at p at vs (w.ends at h) so.allowed)
