-- From the root that the reader read to the outcome of the message.
-- Assumes nothing.
use Prim.Native.Nat.{ℕ, ◌+◌, ◌*◌, ◌≤◌, ◌<◌}
use mathlib.Core.Bool.{Bool, true, false, cond, ◌&&◌}
use mathlib.Core.Path.{◌≡◌, refl, sym, ap, ap₂, ◌∙◌, subst}
use mathlib.Core.Logic.{◌≢◌}
use mathlib.Core.List.{List, [], ◌∷◌}
use native.Mathlib.Omega.{arith}
use native.Mathlib.Nat.{zero-add, sub-zero}
use lib.Pow.{pow_pos}
use lib.Dec.{eqb}
use lib.IntN.{ℤ}
use lib.ListN.{length, drop, set, length-append}
use lib.Seq.{drop_at}
use borrow.Author.Tests.{eq-eqb, ne_eqb}
use Rattle.answer.specs.Numbers.{refusal_at, accepted, refused, Answer}
use Rattle.bits.specs.Bits.{number_of, unpack}
use Rattle.bits.proofs.Bits.{length-unpack}
use Rattle.answer.specs.declared.Refusal.{Refusal}
use Rattle.values.specs.Values.{set_value, store_all}
use Rattle.items.specs.Items.{Items, encoding_bits}
use Rattle.items.specs.Encoding.{size}
use Rattle.items.specs.Reading.{Reading, done, stuck, read_items, ReadOutcome, accept, refuse, all_zero, close_read, decode, read_answer}
use Rattle.items.specs.Walk.{forget, walk}
use Rattle.items.proofs.Messages.{decode-close}
use Rattle.items.proofs.ReadItems.{read-sound}
use Rattle.read_steps.specs.declared.Cursor.{Cursor}
use Rattle.read_steps.specs.Reads.{Step, cursor_at, state_at, Agrees, Reads}
use Rattle.read_steps.specs.Ends.{KeptBy, closed}
use Rattle.std.proofs.Common.{Ok, Err}

-- bits that spell 0 are all zero, and no others
zero_bits : (b : List Bool) → number_of b ≡ 0 → all_zero b ≡ true
unfolding number_of
zero_bits [] h = refl
zero_bits (true ∷ b) h = absurd (omega (arith, pow_pos (length b)))
zero_bits (false ∷ b) h = zero_bits b (omega arith)

nonzero-bits : (b : List Bool) → number_of b ≢ 0 → all_zero b ≡ false
unfolding number_of
nonzero-bits [] h = absurd (h refl)
nonzero-bits (true ∷ b) h = refl
nonzero-bits (false ∷ b) h = nonzero-bits b (λ e. h (omega arith))

-- ── the close ──

module _ (m : List ℕ) (c : Cursor) where
  pub other_size : length m ≢ size c.place.0 → refused 9 c.place.0 ≡ closed m c
  other_size h = rw (ne_eqb (length m) (size c.place.0) h)

  -- by the number that the bits after the root spell
  pub not-zero : (n : ℕ) → length m ≡ size c.place.0 → n ≡ number_of (drop c.place.0 (unpack m)) → n ≢ 0 → refused 9 c.place.0 ≡ closed m c
  not-zero n e q z =
      let b : number_of (drop c.place.0 (unpack m)) ≢ 0 = λ y. z (q ∙ y) in
      rw (eq-eqb (length m) (size c.place.0) e, nonzero-bits (drop c.place.0 (unpack m)) b)

  pub all_zero_lem : (n : ℕ) → length m ≡ size c.place.0 → n ≡ number_of (drop c.place.0 (unpack m)) → n ≡ 0 → accepted c.count c.place.0 0 ≡ closed m c
  all_zero_lem n e q z = rw (eq-eqb (length m) (size c.place.0) e, zero_bits (drop c.place.0 (unpack m)) (sym q ∙ z))

-- ── the root ──

module _ (p : Items) (s : List ℕ) (room : ℕ) (old new : List ℤ) (old_packed new_packed : List ℕ) (step : Step) (some : 0 < length s)
    (reads : Reads s room p (state_at (cursor_at 0 0) old old_packed) new new_packed step) where
  -- what is known of the outcome, by the walk
  abbrev Comes : ReadOutcome → Answer → Type 0
  Comes x r = (r ≡ read_answer x) × KeptBy set x old new × KeptBy set_value x old_packed new_packed

  by_reading : (x : Reading) → read_items p (unpack s) room 0 ≡ x → Agrees 0 old new old_packed new_packed step (forget x)
  unfolding walk
  by_reading x e =
      subst (λ (y : Reading). Agrees 0 old new old_packed new_packed step (forget y)) (ap (λ r. read_items p (unpack s) r 0) (sub-zero room) ∙ e) reads.agrees

  -- a refused root
  pub root-refused : (refusal : Refusal) → step ≡ Err refusal → Comes (decode p s room) (Err refusal)
  root-refused refusal e = rw (decode-close p s room some) (go (read_items p (unpack s) room 0) (by_reading (read_items p (unpack s) room 0) refl))
    where
      go : (x : Reading) → Agrees 0 old new old_packed new_packed step (forget x) → Comes (close_read (length s) x) (Err refusal)
      go (done vs at r) a = let z : ◌≡◌ {A = ℕ} 0 1 = cc a.answer in absurd (omega arith)
      go (stuck by) a = let q : Err by ≡ Err refusal = sym a.answer ∙ e in (cc, tt, tt)

  either : (t : Bool) (vs : List ℤ) (at : ℕ) → new ≡ store_all set old 0 vs → new_packed ≡ store_all set_value old_packed 0 vs
      → Comes (cond t (accept vs at) (refuse (refusal_at 9 at))) (cond t (accepted (length vs) at 0) (refused 9 at))
  either true vs at k l = (refl, k, l)
  either false vs at k l = (refl, tt, tt)

  -- a root that ends at a cursor
  pub root-read : (c : Cursor) → step ≡ Ok c → (c.place.0 ≤ 8 * length s) × Comes (decode p s room) (closed s c)
  root-read c e = go (read_items p (unpack s) room 0) refl (by_reading (read_items p (unpack s) room 0) refl)
    where
      go : (x : Reading) → read_items p (unpack s) room 0 ≡ x → Agrees 0 old new old_packed new_packed step (forget x)
          → (c.place.0 ≤ 8 * length s) × Comes (decode p s room) (closed s c)
      go (stuck refusal) q a = let z : ◌≡◌ {A = ℕ} 0 1 = cc a.answer in absurd (omega arith)
      go (done vs at r) q a =
          let b = unpack s in
          let so = read-sound p b room 0 vs at r q in
          let ec : cursor_at at (0 + length vs) ≡ c = (let y : Ok (cursor_at at (0 + length vs)) ≡ Ok c = sym a.answer ∙ e in cc) in
          let ep : c.place.0 ≡ at = sym (ap (λ (x : Cursor). x.place.0) ec) in
          let en : c.count ≡ length vs = sym (ap (λ (x : Cursor). x.count) ec) ∙ zero-add (length vs) in
          let ea : at ≡ length (encoding_bits p vs) = so.ends ∙ zero-add _ in
          let er : drop at b ≡ r = ap₂ drop ea so.spelt ∙ drop_at (encoding_bits p vs) r (length (encoding_bits p vs)) refl in
          let l : length (encoding_bits p vs) + length r ≡ 8 * length s = sym (length-append (encoding_bits p vs) r) ∙ ap length (sym so.spelt) ∙ length-unpack s in (
            omega arith,
            rw (decode-close p s room some, q, ep, en, er) (either (eqb (length s) (size at) && all_zero r) vs at a.values a.packed),
          )
