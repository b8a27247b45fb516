-- Writing: an allowed list is written as its encoding wherever that fits; what is written is the encoding of an allowed list;
-- and what was read is written back.
-- Assumes nothing.
use Prim.Native.Nat.{ℕ, zero, suc, ◌+◌, ◌-◌, ◌*◌, ◌≤◌, min}
use mathlib.Core.Bool.{Bool, true, false}
use mathlib.Core.Path.{◌≡◌, refl, sym, ap, ◌∙◌}
use mathlib.Core.List.{List, [], ◌∷◌, ◌++◌, append-nil}
use native.Mathlib.Omega.{arith}
use lib.Dec.{leb}
use lib.IntN.{ℤ}
use lib.ListN.{length, length-append}
use borrow.Author.Tests.{leb-true, le-leb}
use Rattle.answer.specs.Numbers.{refusal_at}
use Rattle.answer.specs.declared.Refusal.{Refusal}
use Rattle.bits.proofs.Bits.{length-pack}
use Rattle.item.specs.Code.{allows, value_bits}
use Rattle.items.specs.Items.{Items, stop, ask, Allows, encoding_bits}
use Rattle.items.specs.Encoding.{size, padded, encoding}
use Rattle.items.specs.Writing.{Writing, spelt, halted, unless, behind, write_items, written, close_write, encode}

pub write-complete : (p : Items) (vs ws : List ℤ) (room i : ℕ) → Allows p vs → length (encoding_bits p vs) ≤ room → write_items p (vs ++ ws) room i ≡ spelt (encoding_bits p vs) ws
write-complete stop [] ws room i h l = refl
write-complete stop (v ∷ vs) ws room i h l = absurd h
write-complete (ask c k) [] ws room i h l = absurd h
write-complete (ask c k) (v ∷ vs) ws room i h l =
    let m : length (value_bits c v) + length (encoding_bits (k v) vs) ≤ room = rw length-append at l in
    rw (h.0, le-leb (length (value_bits c v)) room (omega arith), write-complete (k v) vs ws (room - length (value_bits c v)) (suc i) h.1 (omega arith))

pub record WriteSound (p : Items) (vs : List ℤ) (room : ℕ) (b : List Bool) (ws : List ℤ) : Type 0 where
  pub values : List ℤ
  pub split : vs ≡ values ++ ws
  pub allowed : Allows p values
  pub spelt : b ≡ encoding_bits p values
  pub fits : length b ≤ room

unless-inv : (t : Bool) (refusal : Refusal) (w : Writing) {b : List Bool} {vs : List ℤ} → unless t refusal w ≡ spelt b vs → (t ≡ true) × (w ≡ spelt b vs)
unless-inv true refusal w e = (refl, e)
unless-inv false refusal w e = (cc, cc)

behind_inv : (a : List Bool) (w : Writing) {b : List Bool} {vs : List ℤ} → behind a w ≡ spelt b vs → (r : List Bool) × (w ≡ spelt r vs) × (b ≡ a ++ r)
behind_inv a (spelt r ws) e = (r, cc, cc)
behind_inv a (halted refusal) e = ([], cc, cc)

pub write-sound : (p : Items) (vs : List ℤ) (room i : ℕ) (b : List Bool) (ws : List ℤ) → write_items p vs room i ≡ spelt b ws → WriteSound p vs room b ws
write-sound stop vs room i b ws e =
    let eb : [] ≡ b = cc in
    record { values = []; split = cc; allowed = tt; spelt = sym eb; fits = rw (← eb) (omega arith) }
write-sound (ask c k) [] room i b ws e = let z : ◌≡◌ {A = ℕ} 0 1 = cc in absurd (omega arith)
write-sound (ask c k) (v ∷ vs) room i b ws e =
    let x = unless-inv (allows c v) (refusal_at 12 i) _ e in
    let y = unless-inv (leb (length (value_bits c v)) room) (refusal_at 8 i) _ x.1 in
    let z = behind_inv (value_bits c v) _ y.1 in
    let w = write-sound (k v) vs (room - length (value_bits c v)) (suc i) z.0 ws z.1 in
    record {
      values = v ∷ w.values;
      split = ap (v ∷◌) w.split;
      allowed = (x.0, w.allowed);
      spelt = z.2 ∙ ap (value_bits c v ++◌) w.spelt;
      fits = rw (z.2, length-append) (omega (arith, w.fits, leb-true (length (value_bits c v)) room y.0));
    }

pub encode-complete : (p : Items) (vs : List ℤ) (cap : ℕ) → Allows p vs → size (length (encoding_bits p vs)) ≤ min cap 65535 → encode p vs cap ≡ written (encoding p vs)
encode-complete p vs zero h l = absurd (omega arith)
encode-complete p vs (suc cap) h l =
    let w : write_items p vs (8 * min (suc cap) 65535) 0 ≡ spelt (encoding_bits p vs) [] =
    rw append-nil at (write-complete p vs [] (8 * min (suc cap) 65535) 0 h (omega arith)) in
    rw w

-- what was written is the message of a list that is allowed
pub record Written (p : Items) (vs : List ℤ) (cap : ℕ) (s : List ℕ) : Type 0 where
  pub allowed : Allows p vs
  pub octets : encoding p vs ≡ s
  pub fits : length s ≤ min cap 65535

module _ (p : Items) (vs : List ℤ) (s : List ℕ) where
  close_write-sound : (cap : ℕ) (w : Writing) → write_items p vs (8 * min cap 65535) 0 ≡ w → close_write (length vs) cap w ≡ written s → Written p vs cap s
  close_write-sound cap (halted refusal) q e = let z : ◌≡◌ {A = ℕ} 0 1 = cc in absurd (omega arith)
  close_write-sound cap (spelt b (v ∷ us)) q e = let z : ◌≡◌ {A = ℕ} 0 1 = cc in absurd (omega arith)
  close_write-sound zero (spelt b []) q e = let z : ◌≡◌ {A = ℕ} 0 1 = cc in absurd (omega arith)
  close_write-sound (suc cap) (spelt b []) q e =
      let x = write-sound p vs (8 * min (suc cap) 65535) 0 b [] q in
      let ev : vs ≡ x.values = x.split ∙ append-nil x.values in
      let eb : encoding_bits p vs ≡ b = ap (encoding_bits p) ev ∙ sym x.spelt in
      let es : padded b ≡ s = cc in
      let z : length s ≡ size (length b) = ap length (sym es) ∙ length-pack _ _ in
      record { allowed = rw ev x.allowed; octets = ap (λ l. padded l) eb ∙ es; fits = omega (arith, x.fits) }

pub encode-sound : (p : Items) (vs : List ℤ) (cap : ℕ) (s : List ℕ) → encode p vs cap ≡ written s → Written p vs cap s
encode-sound p vs cap s e = close_write-sound p vs s cap (write_items p vs (8 * min cap 65535) 0) refl e
