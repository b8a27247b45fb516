-- How the steps of a writer follow each other: an item put, a part and then another, a refusal that ends it.
-- Assumes nothing.
use Prim.Native.Nat.{ℕ, suc, ◌+◌, ◌-◌, ◌*◌, ◌≤◌}
use mathlib.Core.Bool.{Bool, true, false}
use mathlib.Core.Path.{◌≡◌, refl, sym, ap, ◌∙◌, subst}
use mathlib.Core.List.{List, ◌++◌}
use native.Mathlib.Omega.{arith}
use native.Mathlib.Nat.{add-zero}
use lib.Dec.{leb}
use lib.IntN.{ℤ}
use lib.ListN.{length, length-append}
use borrow.Author.Tests.{leb-true, leb-false, le-leb, lt-leb}
use Rattle.answer.specs.Numbers.{refusal_at}
use Rattle.bits.specs.Bits.{unpack}
use Rattle.bits.specs.Access.{overwritten}
use Rattle.bits.proofs.Bits.{length-unpack}
use Rattle.bits.proofs.Access.{overwritten_none, length-overwritten, overwritten-overwritten}
use Rattle.answer.specs.declared.Refusal.{Refusal}
use Rattle.item.specs.Code.{Code, allows, value_bits}
use Rattle.item.specs.Answers.{put_at, bits_after, Put}
use Rattle.items.specs.Items.{Items, stop, ask, ◌then◌}
use Rattle.items.specs.Spell.{Spell, spelled, barred, spell, following, next}
use Rattle.items.proofs.Spells.{spell-stop, spell-missing, spell-wrong, spell-full, spell-put, spell-then, spell_within, Within}
use Rattle.items.proofs.Runs.{then-stop}
use Rattle.write_steps.specs.declared.Cursor.{Cursor}
use Rattle.write_steps.specs.Writes.{Step, cursor_at, refused_at, Agrees, State, state_at, spell_from, Writes, Continues, Gives, moved_step}
use Rattle.std.proofs.Common.{Ok, Err}

-- bits put at a place leave an output as long as it was
length-put : (old mid : List ℕ) (place : ℕ) (b : List Bool) → unpack mid ≡ overwritten (unpack old) place b → length mid ≡ length old
length-put old mid place b e =
    omega (arith, length-unpack mid, length-unpack old, ap length e, length-overwritten (unpack old) place b)

-- bits put, and then the rest
module _ {old mid new : List ℕ} {place : ℕ} {step : Step} (b : List Bool)
    (fits : place + length b ≤ 8 * length old) (put : unpack mid ≡ overwritten (unpack old) place b) where
  after_bits : (s : Spell) → Within (8 * length old - place - length b) s → Agrees (place + length b) mid new step s → Agrees place old new step (following b s)
  after_bits (barred refusal) w a = record { answer = a.answer; output = tt }
  after_bits (spelled x index) w a =
      let l = length-append b x in
      let n : place + length b + length x ≡ place + length (b ++ x) = omega arith in
      let room : place + length (b ++ x) ≤ length (unpack old) = omega (arith, length-unpack old) in
      record {
        answer = a.answer ∙ ap (λ p. Ok (cursor_at p index)) n;
        output = a.output ∙ ap (λ y. overwritten y (place + length b) x) put ∙ overwritten-overwritten (unpack old) place b x room;
      }

-- ── one part and another ──

-- a part that was written, and then the rest
then-writes : {list : List ℤ} {q : Items} {place : ℕ} {old mid new : List ℕ} {first step : Step} (s : Spell) (c : Cursor)
    → place ≤ 8 * length old → Within (8 * length old - place) s → Agrees place old mid first s → first ≡ Ok c → Writes list q (state_at c mid) new step
    → Agrees place old new step (next (8 * length old - place) s (spell q list))
then-writes (barred refusal) c h w a e r = let z : ◌≡◌ {A = ℕ} 0 1 = cc a.answer in absurd (omega arith)
then-writes {list} {q} {place} {old} {mid} {new} {first} {step} (spelled b i) c h w a e r =
    let ec : c ≡ cursor_at (place + length b) i = cc a.answer in
    let ep : c.place.0 ≡ place + length b = ap (λ x. x.place.0) ec in
    let ei : c.index ≡ i = ap (λ x. x.index) ec in
    let l = length-put old mid place b a.output in
    let room : 8 * length mid - c.place.0 ≡ 8 * length old - place - length b = omega arith in
    let rest = r.agrees (omega arith) in
    after_bits b (omega arith) a.output (spell q list (8 * length old - place - length b) i)
    (spell_within q list (8 * length old - place - length b) i)
    (rw (room, ep, ei) at rest)

-- a refusal ends it
stop-writes : {place : ℕ} {old new : List ℕ} {step : Step} {refusal : Refusal} (s : Spell) (room : ℕ) (f : ℕ → ℕ → Spell)
    → Agrees place old new step s → step ≡ Err refusal → Agrees place old new step (next room s f)
stop-writes (spelled b i) room f a e = let z : ◌≡◌ {A = ℕ} 0 1 = cc a.answer in absurd (omega arith)
stop-writes (barred refusal) room f a e = record { answer = a.answer; output = tt }

-- ── one item ──

-- a value at its index, put by its code
module _ (c : Code) (k : ℤ → Items) (list : List ℤ) (from : State) (v : ℤ) (after : ℕ) (given : Gives list from.cursor.index (Ok (v, after))) where
  abbrev place : ℕ
  place = from.cursor.place.0

  abbrev index : ℕ
  index = from.cursor.index

  abbrev old : List ℕ
  old = from.output

  abbrev bits : List Bool
  bits = value_bits c v

  abbrev room : ℕ
  room = 8 * length old - place

  -- refused
  item-stuck : (refusal : Refusal) → place ≤ 8 * length old → moved_step (put_at c old place v) index after ≡ Err refusal
      → (new : List ℕ) → Agrees place old new (Err refusal) (spell (ask c k) list room index)
  item-stuck refusal h e new = go (allows c v) refl (leb (place + length bits) (8 * length old)) refl
    where
      barred_by : (n : ℕ) → spell (ask c k) list room index ≡ barred (refusal_at n index) → Err refusal ≡ refused_at n index
          → Agrees place old new (Err refusal) (spell (ask c k) list room index)
      barred_by n s q = rw s (record { answer = q; output = tt })

      go : (t : Bool) → allows c v ≡ t → (u : Bool) → leb (place + length bits) (8 * length old) ≡ u
          → Agrees place old new (Err refusal) (spell (ask c k) list room index)
      go false a u l = barred_by 12 (spell-wrong c k list room index v given.0 given.1 a) (sym (rw a at e))
      go true a false l =
          let full : leb (length bits) room ≡ false = lt-leb (length bits) room (omega (arith, leb-false (place + length bits) (8 * length old) l)) in
          barred_by 8 (spell-full c k list room index v given.0 given.1 a full) (sym (rw (a, l) at e))
      go true a true l =
          let z : Ok (cursor_at (place + length bits) after) ≡ Err refusal = rw (a, l) at e in
          let y : ◌≡◌ {A = ℕ} 0 1 = cc in absurd (omega arith)

  -- put: what follows completes it
  item_past : (to : Cursor) (mid : List ℕ) → place ≤ 8 * length old → moved_step (put_at c old place v) index after ≡ Ok to
      → unpack mid ≡ bits_after c (unpack old) place v
      → (new : List ℕ) (step : Step) → Writes list (k v) (state_at to mid) new step → Agrees place old new step (spell (ask c k) list room index)
  item_past to mid h e put new step r = go (allows c v) refl (leb (place + length bits) (8 * length old)) refl
    where
      go : (t : Bool) → allows c v ≡ t → (u : Bool) → leb (place + length bits) (8 * length old) ≡ u
          → Agrees place old new step (spell (ask c k) list room index)
      go false a u l = let z : refused_at 12 index ≡ Ok to = rw a at e in let y : ◌≡◌ {A = ℕ} 0 1 = cc in absurd (omega arith)
      go true a false l = let z : refused_at 8 index ≡ Ok to = rw (a, l) at e in let y : ◌≡◌ {A = ℕ} 0 1 = cc in absurd (omega arith)
      go true a true l =
          let fits = leb-true (place + length bits) (8 * length old) l in
          let inside : leb (length bits) room ≡ true = le-leb (length bits) room (omega arith) in
          let et : Ok (cursor_at (place + length bits) after) ≡ Ok to = rw (a, l) at e in
          let ec : cursor_at (place + length bits) after ≡ to = cc in
          let ep : to.place.0 ≡ place + length bits = sym (ap (λ x. x.place.0) ec) in
          let ei : to.index ≡ suc index = sym (ap (λ x. x.index) ec) ∙ given.2 in
          let stored : unpack mid ≡ overwritten (unpack old) place bits = rw a at put in
          let l = length-put old mid place bits stored in
          let left : 8 * length mid - to.place.0 ≡ room - length bits = omega arith in
          let rest = r.agrees (omega arith) in
          rw (spell-put c k list room index v given.0 given.1 a inside)
          (after_bits bits fits stored (spell (k v) list (room - length bits) (suc index)) (spell_within (k v) list (room - length bits) (suc index))
          (rw (left, ep, ei) at rest))

-- ── writing that comes to writing something else ──

pub continues-trans : {list : List ℤ} {p q r : Items} {a b c : State} → Continues list p a q b → Continues list q b r c → Continues list p a r c
continues-trans f g = record { complete = λ output step h. f.complete output step (g.complete output step h) }

pub continues_same : {list : List ℤ} {p q : Items} {a : State} → p ≡ q → Continues list p a q a
continues_same {list} {p} {q} {a} e = record { complete = λ output step h. subst (λ (i : Items). Writes list i a output step) (sym e) h }

-- nothing asked for
pub writes_nothing : (list : List ℤ) (c : Cursor) (output : List ℕ) → Writes list stop (state_at c output) output (Ok c)
writes_nothing list c output = record {
  agrees = λ h.
      rw (spell-stop list (8 * length output - c.place.0) c.index)
      (record { answer = ap (λ p. Ok (cursor_at p c.index)) (sym (add-zero c.place.0)); output = sym (overwritten_none (unpack output) c.place.0) });
}

-- nothing is left
pub continues_end : {list : List ℤ} {p : Items} {a c : State} → Continues list p a stop c → Writes list p a c.output (Ok c.cursor)
continues_end {list} {p} {a} {c} f = f.complete c.output (Ok c.cursor) (writes_nothing list c.cursor c.output)

-- a part that was written
pub continues_part : {list : List ℤ} (p q : Items) {a : State} {output : List ℕ} {first : Step} {c : Cursor}
    → Writes list p a output first → first ≡ Ok c → Continues list (p then q) a q (state_at c output)
continues_part {list} p q {a} {output} {first} {c} r e = record {
  complete = λ new step h. record {
    agrees = λ inside.
        rw (spell-then p q list (8 * length a.output - a.cursor.place.0) a.cursor.index)
        (then-writes (spell_from p list a) c inside (spell_within p list (8 * length a.output - a.cursor.place.0) a.cursor.index) (r.agrees inside) e h);
  };
}

-- all of it was written
pub continues-done : {list : List ℤ} {p : Items} {a : State} {output : List ℕ} {c : Cursor}
    → Writes list p a output (Ok c) → Continues list p a stop (state_at c output)
continues-done {list} {p} {a} {output} {c} r =
    continues-trans (continues_same (sym (then-stop p))) (continues_part p stop r refl)

-- a part that was refused
pub refused_part : {list : List ℤ} (p q : Items) {a : State} {output : List ℕ} {step : Step} {refusal : Refusal}
    → Writes list p a output step → step ≡ Err refusal → Writes list (p then q) a output step
refused_part {list} p q {a} r e = record {
  agrees = λ inside.
      rw (spell-then p q list (8 * length a.output - a.cursor.place.0) a.cursor.index)
      (stop-writes (spell_from p list a) (8 * length a.output - a.cursor.place.0) (spell q list) (r.agrees inside) e);
}

-- an item whose value was put
pub continues-item : {list : List ℤ} (c : Code) (k : ℤ → Items) {a : State} {v : ℤ} {after : ℕ} {put : Put} {to : Cursor} {output : List ℕ}
    → Gives list a.cursor.index (Ok (v, after)) → put ≡ put_at c a.output a.cursor.place.0 v → moved_step put a.cursor.index after ≡ Ok to
    → unpack output ≡ bits_after c (unpack a.output) a.cursor.place.0 v → Continues list (ask c k) a (k v) (state_at to output)
continues-item {list} c k {a} {v} {after} {put} {to} {output} g ep es eo = record {
  complete = λ new step h. record {
    agrees = λ inside.
        item_past c k list a v after g to output inside (ap (λ x. moved_step x a.cursor.index after) (sym ep) ∙ es) eo new step h;
  };
}

-- an item whose value was refused
pub refused-item : {list : List ℤ} (c : Code) (k : ℤ → Items) {a : State} {v : ℤ} {after : ℕ} {put : Put} {refusal : Refusal} {output : List ℕ}
    → Gives list a.cursor.index (Ok (v, after)) → put ≡ put_at c a.output a.cursor.place.0 v → moved_step put a.cursor.index after ≡ Err refusal
    → Writes list (ask c k) a output (Err refusal)
refused-item {list} c k {a} {v} {after} {put} {refusal} {output} g ep es = record {
  agrees = λ inside.
      item-stuck c k list a v after g refusal inside (ap (λ x. moved_step x a.cursor.index after) (sym ep) ∙ es) output;
}

-- an item whose value is missing
pub missing-item : {list : List ℤ} (c : Code) (k : ℤ → Items) {a : State} {refusal : Refusal} {output : List ℕ}
    → Gives list a.cursor.index (Err refusal) → Writes list (ask c k) a output (Err refusal)
missing-item {list} c k {a} g = record {
  agrees = λ inside.
      rw (spell-missing c k list (8 * length a.output - a.cursor.place.0) a.cursor.index g.0) (record { answer = ap Err g.1; output = tt });
}
