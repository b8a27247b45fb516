-- From the root that the writer wrote to the outcome, and to what the output holds once its rest is zeroed.
-- Assumes nothing.
use Prim.Native.Nat.{ℕ, zero, suc, ◌+◌, ◌-◌, ◌*◌, ◌^◌, ◌≤◌, ◌<◌, min}
use mathlib.Core.Bool.{Bool, true, false, cond}
use mathlib.Core.Path.{◌≡◌, refl, sym, ap, ap₂, ◌∙◌, subst}
use mathlib.Core.List.{List, [], ◌∷◌, ◌++◌}
use native.Mathlib.Omega.{arith}
use native.Mathlib.Nat.{zero-add, sub-zero}
use lib.Pow.{pow_pos}
use lib.Dec.{ltb, eqb}
use lib.IntN.{ℤ}
use lib.ListN.{length, get_or, take, drop, replicate, length-append, length-replicate}
use lib.Seq.{take_at, length-take-le, take-append-le, get_or-take}
use borrow.Author.Tests.{ltb-true, ltb-false, eqb-true, eqb-false, lt-leb}
use Rattle.answer.specs.Numbers.{refusal_at, accepted, refused}
use Rattle.bits.specs.Bits.{bits_of, unpack, pack}
use Rattle.bits.specs.Access.{overwritten}
use Rattle.bits.proofs.Bits.{length-unpack, length-pack, pack-unpack, unpack-take}
use Rattle.bits.proofs.Access.{overwritten_inside, overwritten-overwritten}
use Rattle.answer.specs.declared.Refusal.{Refusal}
use Rattle.items.specs.Items.{Items}
use Rattle.items.specs.Encoding.{size, padding, padded}
use Rattle.items.specs.Writing.{WriteOutcome, written, unwritten, encode, write_answer, write_octets}
use Rattle.items.specs.Spell.{Spell, spelled, barred, spell, close_spell}
use Rattle.items.specs.Slices.{output_after}
use Rattle.items.proofs.Spells.{encode-spell, Within, spell_within}
use Rattle.write_steps.specs.declared.Cursor.{Cursor}
use Rattle.write_steps.specs.Writes.{Step, cursor_at, state_at, Agrees, Writes}
use Rattle.write_steps.specs.Ends.{WrittenBy, Ended, ended_answer, written_count}
use Rattle.std.proofs.Common.{Ok, Err}

take_past : (n : ℕ) (xs : List ℕ) (i : ℕ) → n ≤ i → get_or (take n xs) i 0 ≡ 0
take_past zero xs i h = refl
take_past (suc n) [] i h = refl
take_past (suc n) (x ∷ xs) zero h = absurd (omega arith)
take_past (suc n) (x ∷ xs) (suc i) h = take_past n xs i (omega arith)

-- ── zero bits to the octet's end ──

zeros-are : (k : ℕ) → bits_of k 0 ≡ replicate k false
unfolding bits_of
zeros-are zero = refl
zeros-are (suc k) = rw (lt-leb (2 ^ k) 0 (pow_pos k)) (ap (false ∷◌) (zeros-are k))

module _ (old mid new : List ℕ) (b : List Bool) (some : 0 < length old) (fits : length b ≤ 8 * length old)
    (lm : length mid ≡ length old) (ln : length new ≡ length old) (octets : (i : ℕ) → get_or new i 0 < 256)
    (first : unpack mid ≡ overwritten (unpack old) 0 b) (second : unpack new ≡ overwritten (unpack mid) (length b) (bits_of (8 * size (length b) - length b) 0)) where
  abbrev n : ℕ
  n = size (length b)

  long : length (b ++ padding (length b)) ≡ 8 * n
  long = rw (length-append, length-replicate) (omega arith)

  both : unpack new ≡ (b ++ padding (length b)) ++ drop (8 * n) (unpack old)
  both =
      let l : 0 + length (b ++ padding (length b)) ≤ length (unpack old) = rw (length-unpack old) (omega (arith, long)) in
      let e : 0 + length (b ++ padding (length b)) ≡ 8 * n = zero-add _ ∙ long in
      second ∙ ap₂ (λ x y. overwritten x (length b) y) first (zeros-are (8 * n - length b))
      ∙ ap (λ k. overwritten (overwritten (unpack old) 0 b) k (padding (length b))) (sym (zero-add (length b)))
      ∙ overwritten-overwritten (unpack old) 0 b (padding (length b)) l
      ∙ overwritten_inside (unpack old) 0 (b ++ padding (length b)) l
      ∙ ap (λ k. (b ++ padding (length b)) ++ drop k (unpack old)) e

  -- the octets of the message stand at the output's start
  pub message-stands : (length (padded b) ≤ length new) × (take (length (padded b)) new ≡ padded b)
  message-stands =
      let lp : length (padded b) ≡ n = length-pack n (b ++ padding (length b)) in
      let le : n ≤ length new = omega arith in
      let lt : length (take n new) ≡ n = length-take-le n new le in
      let small : (i : ℕ) → get_or (take n new) i 0 < 256 = λ i. front i in
      let u : unpack (take n new) ≡ b ++ padding (length b) = unpack-take n new le ∙ ap (take (8 * n)) both ∙ take_at (b ++ padding (length b)) (drop (8 * n) (unpack old)) (8 * n) long in
      (omega arith, rw lp (sym (pack-unpack (take n new) small) ∙ ap₂ pack lt u))
    where
      front : (i : ℕ) → get_or (take (size (length b)) new) i 0 < 256
      front i = go (ltb i (size (length b))) refl
        where
          go : (t : Bool) → ltb i (size (length b)) ≡ t → get_or (take (size (length b)) new) i 0 < 256
          go true e = rw (get_or-take (size (length b)) new i 0 (ltb-true i _ e)) (octets i)
          go false e = rw (take_past (size (length b)) new i (ltb-false i _ e)) (omega arith)

-- ── the root ──

module _ (p : Items) (vs : List ℤ) (old mid : List ℕ) (step : Step) (most : length old ≤ 65535)
    (writes : Writes vs p (state_at (cursor_at 0 0) old) mid step) where
  cap : ℕ
  cap = length old

  by_spell : (s : Spell) → spell p vs (8 * length old) 0 ≡ s → Agrees 0 old mid step s
  by_spell s e = subst (λ (x : Spell). Agrees 0 old mid step x) (ap (λ r. spell p vs r 0) (sub-zero (8 * length old)) ∙ e) (writes.agrees (omega arith))

  encoded : encode p vs (length old) ≡ close_spell (length vs) (length old) (spell p vs (8 * length old) 0)
  encoded = let m : min (length old) 65535 ≡ length old = omega arith in encode-spell p vs (length old) ∙ ap (λ k. close_spell (length vs) (length old) (spell p vs (8 * k) 0)) m

  pub root-unwritten : (refusal : Refusal) → step ≡ Err refusal
      → (Err refusal ≡ write_answer (encode p vs (length old))) × WrittenBy (encode p vs (length old)) mid
  root-unwritten refusal e = rw encoded (go (spell p vs (8 * length old) 0) (by_spell (spell p vs (8 * length old) 0) refl))
    where
      go : (s : Spell) → Agrees 0 old mid step s → (Err refusal ≡ write_answer (close_spell (length vs) (length old) s)) × WrittenBy (close_spell (length vs) (length old) s) mid
      go (spelled b i) a = let z : ◌≡◌ {A = ℕ} 0 1 = cc a.answer in absurd (omega arith)
      go (barred by) a = let q : Err by ≡ Err refusal = sym a.answer ∙ e in (cc, tt)

  -- where the root ends
  pub record Ends (c : Cursor) : Type 0 where
    pub bits : List Bool
    pub place : c.place.0 ≡ length bits
    pub fits : length bits ≤ 8 * length old
    pub stands : unpack mid ≡ overwritten (unpack old) 0 bits
    pub outcome : encode p vs (length old) ≡ close_spell (length vs) (length old) (spelled bits c.index)

  pub root_ends : (c : Cursor) → step ≡ Ok c → Ends c
  root_ends c e = go (spell p vs (8 * length old) 0) refl (by_spell (spell p vs (8 * length old) 0) refl) (spell_within p vs (8 * length old) 0)
    where
      go : (s : Spell) → spell p vs (8 * length old) 0 ≡ s → Agrees 0 old mid step s → Within (8 * length old) s → Ends c
      go (barred refusal) q a w = let z : ◌≡◌ {A = ℕ} 0 1 = cc a.answer in absurd (omega arith)
      go (spelled b i) q a w =
          let ec : cursor_at (0 + length b) i ≡ c = (let y : Ok (cursor_at (0 + length b) i) ≡ Ok c = sym a.answer ∙ e in cc) in
          let ei : c.index ≡ i = sym (ap (λ (x : Cursor). x.index) ec) in
          record {
            bits = b;
            place = sym (ap (λ (x : Cursor). x.place.0) ec) ∙ zero-add (length b);
            fits = w;
            stands = a.output;
            outcome = encoded ∙ ap (close_spell (length vs) (length old)) (q ∙ ap (spelled b) (sym ei));
          }

  -- its end
  pub root-written : (c : Cursor) → Ends c → (new : List ℕ) → length mid ≡ length old → length new ≡ length old → ((i : ℕ) → get_or new i 0 < 256) → Ended (length vs) mid new c
      → (ended_answer (length vs) (length mid) c ≡ write_answer (encode p vs (length old))) × WrittenBy (encode p vs (length old)) new
  root-written c x new lm ln octets ended = rw (x.outcome, lm) (go (ltb c.index (length vs)) refl (eqb (length old) 0) refl)
    where
      b : List Bool
      b = x.bits

      go : (t : Bool) → ltb c.index (length vs) ≡ t → (u : Bool) → eqb (length old) 0 ≡ u
          → (cond t (refused 12 c.index) (cond u (refused 8 (length vs)) (accepted 0 0 (size c.place.0)))
          ≡ write_answer (cond t (unwritten (refusal_at 12 c.index)) (cond u (unwritten (refusal_at 8 (length vs))) (written (padded x.bits)))))
          × WrittenBy (cond t (unwritten (refusal_at 12 c.index)) (cond u (unwritten (refusal_at 8 (length vs))) (written (padded x.bits)))) new
      go true e u q = (refl, tt)
      go false e true q = (refl, tt)
      go false e false q =
          let some : 0 < length old = omega (arith, eqb-false (length old) 0 q) in
          let all = ltb-false c.index (length vs) e in
          let second = rw x.place at (ended all (omega arith)) in (
            ap (accepted 0 0) (ap (λ k. size k) x.place ∙ sym (length-pack (size (length x.bits)) (x.bits ++ padding (length x.bits)))),
            message-stands old mid new x.bits some x.fits lm ln octets x.stands second,
          )

-- ── the output ──

close_same : (n a b : ℕ) (s : Spell) → eqb a 0 ≡ eqb b 0 → close_spell n a s ≡ close_spell n b s
close_same n a b (barred refusal) e = refl
close_same n a b (spelled x i) e = rw e

zero_same : (a b : ℕ) → (a ≡ 0 → b ≡ 0) → (b ≡ 0 → a ≡ 0) → eqb a 0 ≡ eqb b 0
zero_same a b f g = go (eqb a 0) refl (eqb b 0) refl
  where
    go : (t : Bool) → eqb a 0 ≡ t → (u : Bool) → eqb b 0 ≡ u → eqb a 0 ≡ eqb b 0
    go true e true q = e ∙ sym q
    go false e false q = e ∙ sym q
    go true e false q = absurd (eqb-false b 0 q (f (eqb-true a 0 e)))
    go false e true q = absurd (eqb-false a 0 e (g (eqb-true b 0 q)))

-- an output above 65,535 octets counts as that long
pub counted-output : (p : Items) (vs : List ℤ) (n most : ℕ) → most ≡ min n 65535 → encode p vs most ≡ encode p vs n
counted-output p vs n most e =
    let m : min most 65535 ≡ min n 65535 = omega arith in
    encode-spell p vs most
    ∙ ap (λ k. close_spell (length vs) most (spell p vs (8 * k) 0)) m
    ∙ close_same (length vs) most n (spell p vs (8 * min n 65535) 0) (zero_same most n (λ z. omega arith) (λ z. omega arith))
    ∙ sym (encode-spell p vs n)

pub written_is : (x : WriteOutcome) → written_count (write_answer x) ≡ length (write_octets x)
written_is (written s) = refl
written_is (unwritten refusal) = refl

pub written_fits : (x : WriteOutcome) (new : List ℕ) → WrittenBy x new → length (write_octets x) ≤ length new
written_fits (written s) new h = h.0
written_fits (unwritten refusal) new h = omega arith

-- what was written stands at the start of the whole output too, and zeros follow it
pub settled-output : (x : WriteOutcome) (new rest : List ℕ) (n : ℕ) → length (new ++ rest) ≡ n → WrittenBy x new
    → take (length (write_octets x)) (new ++ rest) ++ replicate (length (new ++ rest) - length (write_octets x)) 0 ≡ output_after n x
settled-output (written s) new rest n e h =
    ap₂ (λ front m. front ++ replicate (m - length s) 0) (take-append-le (length s) new rest h.0 ∙ h.1) e
settled-output (unwritten refusal) new rest n e h = ap (λ m. replicate (m - 0) 0) e
