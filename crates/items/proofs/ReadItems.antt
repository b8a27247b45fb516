-- Items in order: what was written is read back, what is read was written by exactly one allowed list, and reading one part
-- after another.
-- Assumes nothing.
use Prim.Native.Nat.{ℕ, zero, suc, ◌+◌, ◌-◌, ◌≤◌}
use mathlib.Core.Bool.{Bool}
use mathlib.Core.Path.{◌≡◌, refl, sym, ap, ◌∙◌}
use mathlib.Core.List.{List, [], ◌∷◌, ◌++◌, append_assoc}
use native.Mathlib.Omega.{arith}
use native.Mathlib.Nat.{add-zero, add_assoc, sub-zero, suc-sub-suc}
use lib.IntN.{ℤ}
use lib.ListN.{length, length-append}
use Rattle.item.specs.Code.{Code, Got, got, bad, value_bits, decode_item}
use Rattle.item.proofs.CodeLaws.{decode_item-complete, decode_item-sound}
use Rattle.items.specs.Items.{Items, stop, ask, ◌then◌, Allows, encoding_bits}
use Rattle.items.specs.Reading.{Reading, done, stuck, prepend, read_one, read_items}

pub read-complete : (p : Items) (vs : List ℤ) (r : List Bool) (room at : ℕ) → Allows p vs → length vs ≤ room
    → read_items p (encoding_bits p vs ++ r) room at ≡ done vs (at + length (encoding_bits p vs)) r
read-complete stop [] r room at h l = rw (add-zero at)
read-complete stop (v ∷ vs) r room at h l = absurd h
read-complete (ask c k) [] r room at h l = absurd h
read-complete (ask c k) (v ∷ vs) r zero at h l = absurd (omega arith)
read-complete (ask c k) (v ∷ vs) r (suc room) at h l =
    rw (
      append_assoc,
      decode_item-complete c v (encoding_bits (k v) vs ++ r) h.0,
      read-complete (k v) vs r room (at + length (value_bits c v)) h.1 (omega arith),
      length-append,
      add_assoc,
    )

pub record ReadSound (p : Items) (b : List Bool) (room at : ℕ) (vs : List ℤ) (end : ℕ) (r : List Bool) : Type 0 where
  pub allowed : Allows p vs
  pub spelt : b ≡ encoding_bits p vs ++ r
  pub fits : length vs ≤ room
  pub ends : end ≡ at + length (encoding_bits p vs)

-- what was read behind a list
prepended : (us : List ℤ) (x : Reading) (vs : List ℤ) (n : ℕ) (r : List Bool) → prepend us x ≡ done vs n r → (ws : List ℤ) × (x ≡ done ws n r) × (us ++ ws ≡ vs)
prepended us (done ws m s) vs n r e = (ws, cc, cc)
prepended us (stuck refusal) vs n r e = ([], cc, cc)

module _ (c : Code) (k : ℤ → Items) (b : List Bool) (at : ℕ)
    (ih : (v : ℤ) (b : List Bool) (room at : ℕ) (vs : List ℤ) (n : ℕ) (r : List Bool) → read_items (k v) b room at ≡ done vs n r → ReadSound (k v) b room at vs n r) where
  sound-ask : (g : Got ℤ) → decode_item c b ≡ g → (room : ℕ) (vs : List ℤ) (n : ℕ) (r : List Bool)
      → read_one at g room (λ v b' room'. read_items (k v) b' room' (at + length (value_bits c v))) ≡ done vs n r → ReadSound (ask c k) b room at vs n r
  sound-ask (bad m) q room vs n r e = let z : ◌≡◌ {A = ℕ} 0 1 = cc in absurd (omega arith)
  sound-ask (got v s) q zero vs n r e = let z : ◌≡◌ {A = ℕ} 0 1 = cc in absurd (omega arith)
  sound-ask (got v s) q (suc room) vs n r e =
      let x = prepended (v ∷ []) (read_items (k v) s room (at + length (value_bits c v))) vs n r e in
      let y = ih v s room (at + length (value_bits c v)) x.0 n r x.1 in
      let d = decode_item-sound c b q in
      rw (← x.2) (record {
        allowed = (d.0, y.allowed);
        spelt = d.1 ∙ ap (value_bits c v ++◌) y.spelt ∙ sym (append_assoc (value_bits c v) (encoding_bits (k v) x.0) r);
        fits = omega (arith, y.fits);
        ends = rw length-append (omega (arith, y.ends));
      })

pub read-sound : (p : Items) (b : List Bool) (room at : ℕ) (vs : List ℤ) (n : ℕ) (r : List Bool) → read_items p b room at ≡ done vs n r → ReadSound p b room at vs n r
read-sound stop b room at vs n r e =
    let ev : [] ≡ vs = cc in
    let er : b ≡ r = cc in
    let en : at ≡ n = cc in
    rw (← ev) (record { allowed = tt; spelt = er; fits = omega arith; ends = omega arith })
read-sound (ask c k) b room at vs n r e = sound-ask c k b at (λ v. read-sound (k v)) (decode_item c b) refl room vs n r e

-- reading one after the other
abbrev pub bind : ℕ → Reading → (List Bool → ℕ → ℕ → Reading) → Reading
bind room (done vs at b) f = prepend vs (f b (room - length vs) at)
bind room (stuck refusal) f = stuck refusal

prepend-prepend : (us vs : List ℤ) (x : Reading) → prepend us (prepend vs x) ≡ prepend (us ++ vs) x
prepend-prepend us vs (done ws n b) = rw append_assoc
prepend-prepend us vs (stuck refusal) = refl

prepend-nil : (x : Reading) → prepend [] x ≡ x
prepend-nil (done vs n b) = refl
prepend-nil (stuck refusal) = refl

bind-prepend : (v : ℤ) (room : ℕ) (x : Reading) (f : List Bool → ℕ → ℕ → Reading) → bind (suc room) (prepend (v ∷ []) x) f ≡ prepend (v ∷ []) (bind room x f)
bind-prepend v room (done vs at b) f = rw (prepend-prepend (v ∷ []) vs (f b (room - length vs) at), suc-sub-suc)
bind-prepend v room (stuck refusal) f = refl

pub read-then : (p q : Items) (b : List Bool) (room at : ℕ) → read_items (p then q) b room at ≡ bind room (read_items p b room at) (read_items q)
read-then stop q b room at = rw (prepend-nil, sub-zero)
read-then (ask c k) q b room at = go (decode_item c b) room (λ v. read-then (k v) q)
  where
    go : (g : Got ℤ) (room : ℕ) → ((v : ℤ) (b : List Bool) (room at : ℕ) → read_items (k v then q) b room at ≡ bind room (read_items (k v) b room at) (read_items q))
        → read_one at g room (λ v b' room'. read_items (k v then q) b' room' (at + length (value_bits c v)))
        ≡ bind room (read_one at g room (λ v b' room'. read_items (k v) b' room' (at + length (value_bits c v)))) (read_items q)
    go (bad n) room ih = refl
    go (got v s) zero ih = refl
    go (got v s) (suc room) ih = rw (ih v s room (at + length (value_bits c v)), bind-prepend)
