-- Reading at a place: what each item does to a walk, and one walk after another.
-- Assumes nothing.
use Prim.Native.Nat.{ℕ, suc, ◌+◌, ◌-◌}
use mathlib.Core.Bool.{Bool}
use mathlib.Core.Path.{◌≡◌, refl, sym, ap, ◌∙◌}
use mathlib.Core.List.{List, [], ◌∷◌}
use lib.IntN.{ℤ}
use lib.ListN.{length, drop}
use lib.Seq.{drop_at, drop-drop}
use Rattle.answer.specs.Numbers.{refusal_at}
use Rattle.item.specs.Code.{Code, got, bad, value_bits, decode_item}
use Rattle.item.proofs.CodeLaws.{decode_item-sound}
use Rattle.items.specs.Items.{Items, stop, ask, ◌then◌, encoding_bits}
use Rattle.items.specs.Reading.{Reading, done, stuck, prepend, read_items}
use Rattle.items.specs.Walk.{walked, blocked, forget, walk, after, next}
use Rattle.items.proofs.ReadItems.{bind, read-then, read-sound}

forget-prepend : (us : List ℤ) (x : Reading) → forget (prepend us x) ≡ after us (forget x)
forget-prepend us (done vs at b) = refl
forget-prepend us (stuck refusal) = refl

pub walk-stop : (b : List Bool) (room at : ℕ) → walk stop b room at ≡ walked [] at
unfolding walk
walk-stop b room at = refl

module _ (c : Code) (k : ℤ → Items) (b : List Bool) (at : ℕ) where
  pub walk-bad : (room n : ℕ) → decode_item c (drop at b) ≡ bad n → walk (ask c k) b room at ≡ blocked (refusal_at n at)
  unfolding walk
  walk-bad room n e = rw e

  pub walk-full : {v : ℤ} {r : List Bool} → decode_item c (drop at b) ≡ got v r → walk (ask c k) b 0 at ≡ blocked (refusal_at 8 at)
  unfolding walk
  walk-full e = rw e

  pub walk-got : (room : ℕ) (v : ℤ) (r : List Bool) → decode_item c (drop at b) ≡ got v r
      → walk (ask c k) b (suc room) at ≡ after (v ∷ []) (walk (k v) b room (at + length (value_bits c v)))
  unfolding walk
  walk-got room v r e =
      let s = (decode_item-sound c (drop at b) e).1 in
      let d : drop (at + length (value_bits c v)) b ≡ r =
      sym (drop-drop (length (value_bits c v)) at b) ∙ ap (drop (length (value_bits c v))) s ∙ drop_at (value_bits c v) r (length (value_bits c v)) refl in
      rw (e, d) (forget-prepend (v ∷ []) (read_items (k v) r room (at + length (value_bits c v))))

pub walk-then : (p q : Items) (b : List Bool) (room at : ℕ) → walk (p then q) b room at ≡ next room (walk p b room at) (walk q b)
unfolding walk
walk-then p q b room at = ap forget (read-then p q (drop at b) room at) ∙ go (read_items p (drop at b) room at) refl
  where
    go : (x : Reading) → read_items p (drop at b) room at ≡ x → forget (bind room x (read_items q)) ≡ next room (forget x) (walk q b)
    go (stuck refusal) e = refl
    go (done vs at' r) e =
        let s = read-sound p (drop at b) room at vs at' r e in
        let d : drop at' b ≡ r =
        ap (λ n. drop n b) s.ends ∙ sym (drop-drop (length (encoding_bits p vs)) at b) ∙ ap (drop (length (encoding_bits p vs))) s.spelt
        ∙ drop_at (encoding_bits p vs) r (length (encoding_bits p vs)) refl in
        rw d (forget-prepend vs (read_items q r (room - length vs) at'))
