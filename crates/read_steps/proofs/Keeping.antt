-- An item that was read by its code and kept, and items that begin with it.
-- Assumes nothing.
use Prim.Native.Nat.{ℕ, ◌+◌}
use mathlib.Core.Bool.{true}
use mathlib.Core.Path.{◌≡◌, refl, sym, ap, ◌∙◌}
use mathlib.Core.List.{List}
use native.Mathlib.Omega.{arith}
use lib.IntN.{ℤ}
use lib.ListN.{length, drop, set}
use Rattle.bits.specs.Bits.{unpack}
use Rattle.bits.specs.Access.{place_at}
use Rattle.bits.specs.declared.BitPlace.{BitPlace}
use Rattle.answer.specs.declared.Refusal.{Refusal}
use Rattle.item.specs.Code.{Code, natural, value_bits, allows, Got, got, bad, decode_item}
use Rattle.item.specs.Answers.{item_of, item_at, Item}
use mir.Syntax.{w64}
use mir.Val.{to_z, of_z, SFits}
use mir.Facts.{to_z-of_z}
use Rattle.item.proofs.CodeLaws.{decode_item-sound}
use Rattle.values.specs.Values.{set_value}
use Rattle.items.specs.Items.{Items, stop, ask, one}
use Rattle.read_steps.specs.declared.Cursor.{Cursor}
use Rattle.read_steps.specs.Reads.{Step, State, state_at, Reads, Continues, kept_step, kept_in}
use Rattle.read_steps.proofs.Flow.{value_of, continues-trans, continues_same, continues-item, refused-item, continues_end}
use Rattle.std.proofs.Common.{Ok, Err}

-- the item that stands here was kept, with this step and these slices
pub record Keeping (c : Code) (message : List ℕ) (room : ℕ) (from : State) (values : List ℤ) (packed : List ℕ) (item : Item) (step : Step) : Type 0 where
  pub answer : item ≡ item_at c message from.cursor.place.0
  pub moved : step ≡ kept_step item room from.cursor
  pub in_values : values ≡ kept_in set item room from.cursor.count from.values
  pub in_packed : packed ≡ kept_in set_value item room from.cursor.count from.packed

-- from what the functions that read an item and keep it answer
pub keeping : {c : Code} {message : List ℕ} {room : ℕ} {from : State} {values : List ℤ} {packed : List ℕ} {item : Item} {step : Step} (code : Code)
    → code ≡ c → item ≡ item_at code message from.cursor.place.0
    → (step ≡ kept_step item room from.cursor) × (values ≡ kept_in set item room from.cursor.count from.values) × (packed ≡ kept_in set_value item room from.cursor.count from.packed)
    → Keeping c message room from values packed item step
keeping code ec ei e = record { answer = rw ec at ei; moved = e.0; in_values = e.1; in_packed = e.2 }

-- the same of a value that a `?` took out of what was read, and that the code holds as a word
pub keeping-value : {c : Code} {message : List ℕ} {room : ℕ} {from : State} {values : List ℤ} {packed : List ℕ} {item : Item} {step : Step} {value : ℤ} {next : BitPlace} (code : Code)
    → code ≡ c → SFits w64 value → item ≡ item_at code message from.cursor.place.0 → item ≡ Ok (value, next)
    → (step ≡ kept_step (Ok (to_z w64 (of_z w64 value), next)) room from.cursor) × (values ≡ kept_in set (Ok (to_z w64 (of_z w64 value), next)) room from.cursor.count from.values)
    × (packed ≡ kept_in set_value (Ok (to_z w64 (of_z w64 value), next)) room from.cursor.count from.packed)
    → Keeping c message room from values packed (Ok (value, next)) step
keeping-value {value = value} code ec fits ei is e = keeping code ec (sym is ∙ ei) (rw (to_z-of_z {w = w64} fits) at e)

-- such a value as a count
pub count-held : {n : ℕ} (value : ℤ) → SFits w64 value → n ≡ natural (to_z w64 (of_z w64 value)) → n ≡ natural value
count-held value fits e = rw (to_z-of_z {w = w64} fits) at e

module _ {message : List ℕ} {room : ℕ} {from : State} {values : List ℤ} {packed : List ℕ} {item : Item} {step : Step} where
  -- its value is one that its code allows
  pub kept_allowed : {c : Code} {next : Cursor} → Keeping c message room from values packed item step → step ≡ Ok next → allows c (value_of item) ≡ true
  kept_allowed {c} {next} q e = go item q.answer (sym q.moved ∙ e)
    where
      at : ℕ
      at = from.cursor.place.0

      go : (item : Item) → item ≡ item_at c message at → kept_step item room from.cursor ≡ Ok next → allows c (value_of item) ≡ true
      go (Err n) ei es = let z : ◌≡◌ {A = ℕ} 0 1 = cc in absurd (omega arith)
      go (Ok (v, place)) ei es = decoded (decode_item c (drop at (unpack message))) refl (sym ei)
        where
          decoded : (g : Got ℤ) → decode_item c (drop at (unpack message)) ≡ g → item_of c at g ≡ Ok (v, place) → allows c v ≡ true
          decoded (bad n) q e = cc
          decoded (got u r) q e =
              let both : ◌≡◌ {A = ℤ × BitPlace} (u, place_at (at + length (value_bits c u))) (v, place) = cc in
              let eu : u ≡ v = ap (λ (x : ℤ × BitPlace). x.0) both in rw (← eu) (decode_item-sound c (drop at (unpack message)) q).0

  -- items that begin with one by its code
  module _ {p : Items} (c : Code) (k : ℤ → Items) (first : p ≡ ask c k) (q : Keeping c message room from values packed item step) where
    -- it was refused
    pub first_refused : {refusal : Refusal} → step ≡ Err refusal → Reads message room p from values packed (Err refusal)
    first_refused e = rw first (refused-item c k q.answer (sym q.moved ∙ e))

    -- it was kept, and comes to what its value calls for
    pub first-kept : {next : Cursor} → step ≡ Ok next → Continues message room p from (k (value_of item)) (state_at next values packed)
    first-kept e = continues-trans (continues_same first) (continues-item c k item q.answer (sym q.moved ∙ e) q.in_values q.in_packed)

-- an item that was refused by its own code, and items that begin with it
pub item-refused : {message : List ℕ} {room : ℕ} {from : State} {values : List ℤ} {packed : List ℕ} {p : Items} {item : Item} {refusal : Refusal} (c : Code) (k : ℤ → Items)
    → p ≡ ask c k → (code : Code) → code ≡ c → item ≡ item_at code message from.cursor.place.0 → item ≡ Err refusal → Reads message room p from values packed (Err refusal)
item-refused c k first code ec e is = rw first (refused-item c k (sym is ∙ rw ec at e) refl)

-- one item and no more
pub reads_one : {c : Code} {message : List ℕ} {room : ℕ} {from : State} {values : List ℤ} {packed : List ℕ} {item : Item} (step : Step)
    → Keeping c message room from values packed item step → Reads message room (one c) from values packed step
unfolding one
reads_one {c} (Ok to) q = continues_end (first-kept c (λ v. stop) refl q refl)
reads_one {c} (Err refusal) q = first_refused c (λ v. stop) refl q refl
