-- How the steps of a reader follow each other: an item kept, a part and then another, a refusal that ends it.
-- Assumes nothing.
use Prim.Native.Nat.{ℕ, suc, ◌+◌, ◌-◌}
use mathlib.Core.Bool.{Bool, true, false, cond}
use mathlib.Core.Path.{◌≡◌, refl, sym, ap, ◌∙◌, subst}
use mathlib.Core.List.{List, [], ◌∷◌}
use native.Mathlib.Omega.{arith}
use native.Mathlib.Nat.{add-zero}
use lib.Dec.{leb}
use lib.IntN.{ℤ, pos}
use lib.ListN.{length, drop, set, length-append}
use borrow.Author.Tests.{leb-true, leb-false}
use Rattle.answer.specs.Numbers.{refusal_at}
use Rattle.bits.specs.Bits.{unpack}
use Rattle.bits.specs.Access.{place_at}
use Rattle.bits.specs.declared.BitPlace.{BitPlace}
use Rattle.item.specs.Code.{Code, Got, got, bad, decode_item, value_bits}
use Rattle.item.specs.Answers.{item_of, item_at, Item}
use Rattle.values.specs.Values.{set_value, store_all}
use Rattle.values.proofs.Stores.{store_all-append}
use Rattle.items.proofs.Runs.{then-stop}
use Rattle.items.specs.Items.{Items, stop, ask, ◌then◌}
use Rattle.items.specs.Walk.{Walk, walked, blocked, walk, after, next}
use Rattle.items.proofs.Walks.{walk-stop, walk-bad, walk-full, walk-got, walk-then}
use Rattle.answer.specs.declared.Refusal.{Refusal}
use Rattle.read_steps.specs.declared.Cursor.{Cursor}
use Rattle.read_steps.specs.Reads.{Step, cursor_at, refused_at, step_of, Kept, Agrees, State, state_at, walk_from, Reads, Continues, kept_step, kept_in}
use Rattle.std.proofs.Common.{Ok, Err}

-- what is kept after the values us
kept_after : {A : Type 0} (put : List A → ℕ → ℤ → List A) (count : ℕ) (us : List ℤ) (w : Walk) (old mid new : List A)
    → mid ≡ store_all put old count us → Kept put (count + length us) w mid new → Kept put count (after us w) old new
kept_after put count us (walked vs at) old mid new e k = k ∙ ap (λ l. store_all put l (count + length us) vs) e ∙ sym (store_all-append put us vs old count)
kept_after put count us (blocked refusal) old mid new e k = tt

step_after : (count : ℕ) (us : List ℤ) (w : Walk) → step_of (count + length us) w ≡ step_of count (after us w)
step_after count us (walked vs at) = ap (λ n. Ok (cursor_at at n)) (rw length-append (omega arith))
step_after count us (blocked refusal) = refl

module _ {count : ℕ} {old mid new : List ℤ} {old_packed mid_packed new_packed : List ℕ} {first step : Step} where
  -- a part that was read, and then the rest
  pub then-reads : (w : Walk) (room : ℕ) (f : ℕ → ℕ → Walk) (c : Cursor)
      → Agrees count old mid old_packed mid_packed first w → first ≡ Ok c
      → Agrees c.count mid new mid_packed new_packed step (f (room - c.count) c.place.0)
      → Agrees count old new old_packed new_packed step (next (room - count) w f)
  then-reads (blocked refusal) room f c a e b = let z : ◌≡◌ {A = ℕ} 0 1 = cc a.answer in absurd (omega arith)
  then-reads (walked us at) room f c a e b =
      let ec : c ≡ cursor_at at (count + length us) = cc a.answer in
      let en : c.count ≡ count + length us = ap (λ x. x.count) ec in
      let ep : c.place.0 ≡ at = ap (λ x. x.place.0) ec in
      let er : room - c.count ≡ room - count - length us = omega arith in
      let w = f (room - count - length us) at in
      let b' : Agrees (count + length us) mid new mid_packed new_packed step w = rw (er, ep, en) at b in
      record {
        answer = b'.answer ∙ step_after count us w;
        values = kept_after set count us w old mid new a.values b'.values;
        packed = kept_after set_value count us w old_packed mid_packed new_packed a.packed b'.packed;
      }

-- a refusal ends it
pub stop-reads : {count : ℕ} {old new : List ℤ} {old_packed new_packed : List ℕ} {step : Step} {refusal : Refusal} (w : Walk) (room : ℕ) (f : ℕ → ℕ → Walk)
    → Agrees count old new old_packed new_packed step w → step ≡ Err refusal → Agrees count old new old_packed new_packed step (next room w f)
stop-reads (walked us at) room f a e = let z : ◌≡◌ {A = ℕ} 0 1 = cc a.answer in absurd (omega arith)
stop-reads (blocked refusal) room f a e = record { answer = a.answer; values = tt; packed = tt }

-- nothing asked for
pub nothing-reads : (message : List ℕ) (room : ℕ) (c : Cursor) (old : List ℤ) (old_packed : List ℕ)
    → Agrees c.count old old old_packed old_packed (Ok c) (walk_from stop message room c)
nothing-reads message room c old old_packed =
    rw (walk-stop (unpack message) (room - c.count) c.place.0)
    (record { answer = ap (λ n. Ok (cursor_at c.place.0 n)) (sym (add-zero c.count)); values = refl; packed = refl })

-- one value kept, and then the rest
one_more : {count : ℕ} {old new : List ℤ} {old_packed new_packed : List ℕ} {step : Step} (v : ℤ) (w : Walk)
    → Agrees (count + 1) (set old count v) new (set_value old_packed count v) new_packed step w → Agrees count old new old_packed new_packed step (after (v ∷ []) w)
one_more {count} {old} {new} {old_packed} {new_packed} v w b = record {
  answer = b.answer ∙ step_after count (v ∷ []) w;
  values = kept_after set count (v ∷ []) w old (set old count v) new refl b.values;
  packed = kept_after set_value count (v ∷ []) w old_packed (set_value old_packed count v) new_packed refl b.packed;
}

-- one item, and what its value calls for
module _ (c : Code) (k : ℤ → Items) (message : List ℕ) (room : ℕ) (cursor : Cursor) (old : List ℤ) (old_packed : List ℕ) where
  abbrev item : Item
  item = item_at c message cursor.place.0

  -- refused
  pub item-stuck : (refusal : Refusal) → kept_step item room cursor ≡ Err refusal
      → (new : List ℤ) (new_packed : List ℕ) → Agrees cursor.count old new old_packed new_packed (Err refusal) (walk_from (ask c k) message room cursor)
  item-stuck refusal e new new_packed = go (decode_item c (drop cursor.place.0 (unpack message))) refl e
    where
      blocked_by : (by : Refusal) → walk_from (ask c k) message room cursor ≡ blocked by → ◌≡◌ {A = Step} (Err refusal) (Err by)
          → Agrees cursor.count old new old_packed new_packed (Err refusal) (walk_from (ask c k) message room cursor)
      blocked_by by w q = rw w (record { answer = q; values = tt; packed = tt })

      full : (b : Bool) (v : ℤ) (nx : BitPlace) (r : List Bool) → leb room cursor.count ≡ b
          → decode_item c (drop cursor.place.0 (unpack message)) ≡ got v r
          → cond {A = Step} b (refused_at 8 cursor.place.0) (Ok (record { place = nx; count = cursor.count + 1 })) ≡ Err refusal
          → Agrees cursor.count old new old_packed new_packed (Err refusal) (walk_from (ask c k) message room cursor)
      full true v nx r t q e =
          let z : room - cursor.count ≡ 0 = omega (arith, leb-true room cursor.count t) in
          blocked_by (refusal_at 8 cursor.place.0) (rw z (walk-full c k (unpack message) cursor.place.0 q)) (sym e)
      full false v nx r t q e = let z : ◌≡◌ {A = ℕ} 0 1 = cc in absurd (omega arith)

      go : (g : Got ℤ) → decode_item c (drop cursor.place.0 (unpack message)) ≡ g → kept_step (item_of c cursor.place.0 g) room cursor ≡ Err refusal
          → Agrees cursor.count old new old_packed new_packed (Err refusal) (walk_from (ask c k) message room cursor)
      go (bad n) q e = blocked_by (refusal_at n cursor.place.0) (walk-bad c k (unpack message) cursor.place.0 (room - cursor.count) n q) (sym e)
      go (got v r) q e = full (leb room cursor.count) v (place_at (cursor.place.0 + length (value_bits c v))) r refl q e

  -- read, with its value v: what follows completes it
  pub item_past : (v : ℤ) (place : BitPlace) (far : Cursor) → item ≡ Ok (v, place) → kept_step item room cursor ≡ Ok far
      → (new : List ℤ) (new_packed : List ℕ) (step : Step)
      → Agrees far.count (kept_in set item room cursor.count old) new (kept_in set_value item room cursor.count old_packed) new_packed step (walk_from (k v) message room far)
      → Agrees cursor.count old new old_packed new_packed step (walk_from (ask c k) message room cursor)
  item_past v place far ei es new new_packed step rest = go (decode_item c (drop at b)) refl ei (leb room n) refl
    where
      at : ℕ
      at = cursor.place.0

      n : ℕ
      n = cursor.count

      b : List Bool
      b = unpack message

      es' : kept_step (Ok (v, place)) room cursor ≡ Ok far
      es' = ap (λ i. kept_step i room cursor) (sym ei) ∙ es

      rest' : Agrees far.count (kept_in set (Ok (v, place)) room n old) new (kept_in set_value (Ok (v, place)) room n old_packed) new_packed step (walk_from (k v) message room far)
      rest' = subst (λ (i : Item). Agrees far.count (kept_in set i room n old) new (kept_in set_value i room n old_packed) new_packed step (walk_from (k v) message room far)) ei rest

      go : (g : Got ℤ) → decode_item c (drop at b) ≡ g → item_of c at g ≡ Ok (v, place) → (t : Bool) → leb room n ≡ t
          → Agrees n old new old_packed new_packed step (walk_from (ask c k) message room cursor)
      go (bad m) q e t h = let z : ◌≡◌ {A = ℕ} 0 1 = cc in absurd (omega arith)
      go (got u r) q e true h =
          let z : ◌≡◌ {A = Step} (refused_at 8 at) (Ok far) = rw h at es' in
          let y : ◌≡◌ {A = ℕ} 0 1 = cc in absurd (omega arith)
      go (got u r) q e false h =
          let both : ◌≡◌ {A = ℤ × BitPlace} (u, place_at (at + length (value_bits c u))) (v, place) = cc in
          let eu : u ≡ v = ap (λ (x : ℤ × BitPlace). x.0) both in
          let ep : place_at (at + length (value_bits c u)) ≡ place = ap (λ (x : ℤ × BitPlace). x.1) both in
          let et : ◌≡◌ {A = Step} (Ok (record { place = place; count = n + 1 })) (Ok far) = rw h at es' in
          let ec : ◌≡◌ {A = Cursor} (record { place = place; count = n + 1 }) far = cc in
          let left : room - n ≡ suc (room - (n + 1)) = omega (arith, leb-false room n h) in
          let ea : far.place.0 ≡ at + length (value_bits c v) = sym (ap (λ x. x.place.0) ec) ∙ sym (ap (λ x. x.0) ep) ∙ ap (λ x. at + length (value_bits c x)) eu in
          let en : far.count ≡ n + 1 = sym (ap (λ x. x.count) ec) in
          let w : walk (ask c k) b (room - n) at ≡ after (v ∷ []) (walk (k v) b (room - (n + 1)) (at + length (value_bits c v))) =
          ap (λ m. walk (ask c k) b m at) left ∙ walk-got c k b at (room - (n + 1)) v r (q ∙ ap (λ x. got x r) eu) in
          rw w (one_more v (walk (k v) b (room - (n + 1)) (at + length (value_bits c v))) (rw (h, ea, en) at rest'))

-- ── reading that comes to reading something else ──

pub continues-trans : {message : List ℕ} {room : ℕ} {p q r : Items} {a b c : State}
    → Continues message room p a q b → Continues message room q b r c → Continues message room p a r c
continues-trans f g = record { complete = λ values packed step h. f.complete values packed step (g.complete values packed step h) }

pub continues_same : {message : List ℕ} {room : ℕ} {p q : Items} {a : State} → p ≡ q → Continues message room p a q a
continues_same {message} {room} {p} {q} {a} e =
    record { complete = λ values packed step h. subst (λ (i : Items). Reads message room i a values packed step) (sym e) h }

-- nothing is left
pub continues_end : {message : List ℕ} {room : ℕ} {p : Items} {a c : State}
    → Continues message room p a stop c → Reads message room p a c.values c.packed (Ok c.cursor)
continues_end {message} {room} {p} {a} {c} f =
    f.complete c.values c.packed (Ok c.cursor) (record { agrees = nothing-reads message room c.cursor c.values c.packed })

pub reads_nothing : {message : List ℕ} {room : ℕ} {a : State} → Reads message room stop a a.values a.packed (Ok a.cursor)
reads_nothing {message} {room} {a} = record { agrees = nothing-reads message room a.cursor a.values a.packed }

-- a part that was read
pub continues_part : {message : List ℕ} {room : ℕ} (p q : Items) {a : State} {values : List ℤ} {packed : List ℕ} {first : Step} {c : Cursor}
    → Reads message room p a values packed first → first ≡ Ok c → Continues message room (p then q) a q (state_at c values packed)
continues_part {message} {room} p q {a} {values} {packed} {first} {c} r e = record {
  complete = λ new new_packed step h. record {
    agrees =
        rw (walk-then p q (unpack message) (room - a.cursor.count) a.cursor.place.0)
        (then-reads (walk_from p message room a.cursor) room (walk q (unpack message)) c r.agrees e h.agrees);
  };
}

-- items that were read leave nothing
pub continues-done : {message : List ℕ} {room : ℕ} {p : Items} {a : State} {values : List ℤ} {packed : List ℕ} {c : Cursor}
    → Reads message room p a values packed (Ok c) → Continues message room p a stop (state_at c values packed)
continues-done {message} {room} {p} r = continues-trans (continues_same (sym (then-stop p))) (continues_part p stop r refl)

-- a part that was refused
pub refused_part : {message : List ℕ} {room : ℕ} (p q : Items) {a : State} {values : List ℤ} {packed : List ℕ} {step : Step} {refusal : Refusal}
    → Reads message room p a values packed step → step ≡ Err refusal → Reads message room (p then q) a values packed step
refused_part {message} {room} p q {a} r e = record {
  agrees =
      rw (walk-then p q (unpack message) (room - a.cursor.count) a.cursor.place.0)
      (stop-reads (walk_from p message room a.cursor) (room - a.cursor.count) (walk q (unpack message)) r.agrees e);
}

-- the value of an item, 0 where there is none
abbrev pub value_of : Item → ℤ
value_of (Err refusal) = pos 0
value_of (Ok (v, place)) = v

-- an item that was kept
pub continues-item : {message : List ℕ} {room : ℕ} (c : Code) (k : ℤ → Items) {a : State} (item : Item) {next : Cursor} {values : List ℤ} {packed : List ℕ}
    → item ≡ item_at c message a.cursor.place.0 → kept_step item room a.cursor ≡ Ok next
    → values ≡ kept_in set item room a.cursor.count a.values → packed ≡ kept_in set_value item room a.cursor.count a.packed
    → Continues message room (ask c k) a (k (value_of item)) (state_at next values packed)
continues-item {message} {room} c k {a} (Err n) ei es ev ep = let z : ◌≡◌ {A = ℕ} 0 1 = cc in absurd (omega arith)
continues-item {message} {room} c k {a} (Ok (v, place)) {next} {values} {packed} ei es ev ep = record {
  complete = λ new new_packed step h. record {
    agrees =
        item_past c k message room a.cursor a.values a.packed v place next (sym ei) (ap (λ i. kept_step i room a.cursor) (sym ei) ∙ es) new new_packed step
        (rw (← ei, ← ev, ← ep) h.agrees);
  };
}

-- an item that was refused
pub refused-item : {message : List ℕ} {room : ℕ} (c : Code) (k : ℤ → Items) {a : State} {item : Item} {refusal : Refusal} {values : List ℤ} {packed : List ℕ}
    → item ≡ item_at c message a.cursor.place.0 → kept_step item room a.cursor ≡ Err refusal
    → Reads message room (ask c k) a values packed (Err refusal)
refused-item {message} {room} c k {a} {item} {refusal} {values} {packed} ei es = record {
  agrees =
      item-stuck c k message room a.cursor a.values a.packed refusal
      (ap (λ i. kept_step i room a.cursor) (sym ei) ∙ es) values packed;
}
