-- The next value, put by its code, and items that begin with it.
-- Assumes nothing.
use Prim.Native.Nat.{ℕ}
use mathlib.Core.Bool.{Bool, true, false}
use mathlib.Core.Path.{◌≡◌, refl, sym, ap, ◌∙◌}
use mathlib.Core.List.{List}
use lib.IntN.{ℤ}
use Rattle.bits.specs.Bits.{unpack}
use Rattle.answer.specs.declared.Reason.TheVariants.{WrongValue}
use Rattle.answer.specs.declared.Refusal.{Refusal}
use Rattle.item.specs.Code.{Code, allows}
use Rattle.item.specs.Answers.{put_at, bits_after, Put}
use Rattle.items.specs.Items.{Items, stop, ask, one}
use Rattle.write_steps.specs.declared.Cursor.{Cursor}
use Rattle.write_steps.specs.Writes.{Given, Step, State, state_at, Writes, Continues, Gives, missing_at, moved_step}
use Rattle.write_steps.proofs.Flow.{continues-trans, continues_same, continues-item, refused-item, missing-item, continues_end}
use Rattle.std.proofs.Common.{Ok, Err}

-- the value v that the list gives next was put, with this step and this output
pub record Putting (c : Code) (list : List ℤ) (from : State) (output : List ℕ) (v : ℤ) (step : Step) : Type 0 where
  pub after : ℕ
  pub put : Put
  pub given : Gives list from.cursor.index (Ok (v, after))
  pub answer : put ≡ put_at c from.output from.cursor.place.0 v
  pub moved : step ≡ moved_step put from.cursor.index after
  pub bits : unpack output ≡ bits_after c (unpack from.output) from.cursor.place.0 v

-- from what the functions that put a value answer: `given` and `held` are the value as the list gives it and as the code holds it
pub putting : {c : Code} {list : List ℤ} {from : State} {output : List ℕ} {v : ℤ} {step : Step} (code : Code) (given : Given) (put : Put) (held : ℤ) (after : ℕ)
    → code ≡ c → Gives list from.cursor.index given → given ≡ Ok (v, after) → held ≡ v
    → (put ≡ put_at code from.output from.cursor.place.0 held) × (unpack output ≡ bits_after code (unpack from.output) from.cursor.place.0 held)
    → step ≡ moved_step put from.cursor.index after → Putting c list from output v step
putting {c} {list} {from} {output} {v} {step} code given put held after ec g eg eh e m =
    let d : Gives list from.cursor.index (Ok (v, after)) = rw eg at g in
    record {
      after = after;
      put = put;
      given = d;
      answer = rw (ec, eh) at e.0;
      moved = m;
      bits = rw (ec, eh) at e.1;
    }

-- it is one that its code allows
pub put-allowed : {c : Code} {list : List ℤ} {from : State} {output : List ℕ} {v : ℤ} {step : Step} {to : Cursor} → Putting c list from output v step → step ≡ Ok to → allows c v ≡ true
put-allowed {c} {list} {from} {output} {v} {step} {to} p e = go (allows c v) refl
  where
    go : (t : Bool) → allows c v ≡ t → t ≡ true
    go true a = refl
    go false a =
        let u : p.put ≡ Err WrongValue = rw a at p.answer in
        let z : Err (missing_at from.cursor.index) ≡ Ok to = ap (λ x. moved_step x from.cursor.index p.after) (sym u) ∙ sym p.moved ∙ e in
        cc

-- items that begin with one by its code
module _ {list : List ℤ} {p : Items} {from : State} {output : List ℕ} (c : Code) (k : ℤ → Items) (first : p ≡ ask c k) where
  -- the value is missing
  pub first_missing : (given : Given) {refusal : Refusal} → Gives list from.cursor.index given → given ≡ Err refusal → Writes list p from output (Err refusal)
  first_missing given g e = rw first (missing-item c k (rw e at g))

  -- it was refused
  pub first_refused : {v : ℤ} {step : Step} {refusal : Refusal} → Putting c list from output v step → step ≡ Err refusal → Writes list p from output (Err refusal)
  first_refused q e = rw first (refused-item c k q.given q.answer (sym q.moved ∙ e))

  -- it was put, and comes to what it calls for
  pub first_put : {v : ℤ} {step : Step} {to : Cursor} → Putting c list from output v step → step ≡ Ok to → Continues list p from (k v) (state_at to output)
  first_put q e = continues-trans (continues_same first) (continues-item c k q.given q.answer (sym q.moved ∙ e) q.bits)

-- one item and no more
pub writes_one : {c : Code} {list : List ℤ} {from : State} {output : List ℕ} {v : ℤ} (step : Step) → Putting c list from output v step → Writes list (one c) from output step
unfolding one
writes_one {c} (Ok to) p = continues_end (first_put c (λ v. stop) refl p refl)
writes_one {c} (Err refusal) p = first_refused c (λ v. stop) refl p refl
