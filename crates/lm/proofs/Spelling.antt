-- When items are a layout: they allow exactly the lists of its well-formed values, with its bits. How this is put together, for
-- an item and what follows it, for one part after another, and for a number of them.
-- Assumes nothing.
use Prim.Native.Nat.{ℕ, zero, suc}
use mathlib.Core.Bool.{Bool, true}
use mathlib.Core.Path.{◌≡◌, refl, sym, ap, ap₂, ◌∙◌}
use mathlib.Core.List.{List, [], ◌∷◌, ◌++◌, map, append_assoc}
use native.Mathlib.Omega.{arith}
use lib.IntN.{ℤ}
use lib.ListN.{length}
use Rattle.item.specs.Code.{Code, allows, value_bits}
use Rattle.items.specs.Items.{Items, stop, ask, ◌then◌, times, Allows, encoding_bits}
use Rattle.lm.specs.Clause5.{in_order, Each}

-- items p are the layout of an A: which are well-formed, their values and their bits
pub record Spells (p : Items) {A : Type 0} (Fine : A → Type 0) (values : A → List ℤ) (bits : A → List Bool) : Type 0 where
  pub allowed : (a : A) → Fine a → Allows p (values a)
  pub laid : (a : A) → Fine a → encoding_bits p (values a) ≡ bits a
  pub only : (vs : List ℤ) → Allows p vs → (a : A) × Fine a × (values a ≡ vs)

-- the same layout of something else
pub spells_as : {p : Items} {A B : Type 0} {F : A → Type 0} {v : A → List ℤ} {b : A → List Bool} {G : B → Type 0} {w : B → List ℤ} {c : B → List Bool}
    → Spells p F v b
    → ((y : B) → G y → (x : A) × F x × (w y ≡ v x) × (c y ≡ b x))
    → ((x : A) → F x → (y : B) × G y × (w y ≡ v x))
    → Spells p G w c
spells_as {p} s from to = record {
  allowed = λ y g. let x = from y g in rw x.2 (s.allowed x.0 x.1);
  laid = λ y g. let x = from y g in ap (encoding_bits p) x.2 ∙ s.laid x.0 x.1 ∙ sym x.3;
  only = λ vs h. let x = s.only vs h in let y = to x.0 x.1 in (y.0, y.1, y.2 ∙ x.2);
}

-- one item, and what follows it; the item's value is told by the whole
pub spells-ask : {A : Type 0} {F : A → Type 0} {v : A → List ℤ} {b : A → List Bool} (c : Code) (k : ℤ → Items) (tag : A → ℤ)
    → ((a : A) → F a → allows c (tag a) ≡ true)
    → ((t : ℤ) → allows c t ≡ true → Spells (k t) (λ a. (tag a ≡ t) × F a) v b)
    → Spells (ask c k) F (λ a. tag a ∷ v a) (λ a. value_bits c (tag a) ++ b a)
spells-ask {A} {F} {v} c k tag within next = record {
  allowed = λ a f. (within a f, (next (tag a) (within a f)).allowed a (refl, f));
  laid = λ a f. ap (value_bits c (tag a) ++◌) ((next (tag a) (within a f)).laid a (refl, f));
  only = only;
}
  where
    only : (vs : List ℤ) → Allows (ask c k) vs → (a : A) × F a × (tag a ∷ v a ≡ vs)
    only [] h = absurd h
    only (t ∷ vs) h = let x = (next t h.0).only vs h.1 in (x.0, x.1.1, ap₂ ◌∷◌ x.1.0 x.2)

-- nothing more
pub spells-stop : {A : Type 0} {F : A → Type 0} (a : A) → F a → Spells stop F (λ a. []) (λ a. [])
spells-stop {A} {F} a f = record { allowed = λ a f. tt; laid = λ a f. refl; only = only }
  where
    only : (vs : List ℤ) → Allows stop vs → (a : A) × F a × ([] ≡ vs)
    only [] h = (a, f, refl)
    only (v ∷ vs) h = absurd h

-- ── one part after another ──

record Split (p q : Items) (vs : List ℤ) : Type 0 where
  us : List ℤ
  ws : List ℤ
  join : us ++ ws ≡ vs
  first : Allows p us
  second : Allows q ws

then-split : (p q : Items) (vs : List ℤ) → Allows (p then q) vs → Split p q vs
then-split stop q vs h = record { us = []; ws = vs; join = refl; first = tt; second = h }
then-split (ask c k) q [] h = absurd h
then-split (ask c k) q (v ∷ vs) h =
    let s = then-split (k v) q vs h.1 in
    record { us = v ∷ s.us; ws = s.ws; join = ap (v ∷◌) s.join; first = (h.0, s.first); second = s.second }

then-join : (p q : Items) (us ws : List ℤ) → Allows p us → Allows q ws → Allows (p then q) (us ++ ws)
then-join stop q [] ws h k = k
then-join stop q (u ∷ us) ws h k = absurd h
then-join (ask c f) q [] ws h k = absurd h
then-join (ask c f) q (u ∷ us) ws h k = (h.0, then-join (f u) q us ws h.1 k)

then-bits : (p q : Items) (us ws : List ℤ) → Allows p us → encoding_bits (p then q) (us ++ ws) ≡ encoding_bits p us ++ encoding_bits q ws
then-bits stop q [] ws h = refl
then-bits stop q (u ∷ us) ws h = absurd h
then-bits (ask c f) q [] ws h = absurd h
then-bits (ask c f) q (u ∷ us) ws h = ap (value_bits c u ++◌) (then-bits (f u) q us ws h.1) ∙ sym (append_assoc (value_bits c u) (encoding_bits (f u) us) (encoding_bits q ws))

pub spells_then : {p q : Items} {A B : Type 0} {F : A → Type 0} {v : A → List ℤ} {b : A → List Bool} {G : B → Type 0} {w : B → List ℤ} {c : B → List Bool}
    → Spells p F v b → Spells q G w c
    → Spells (p then q) {A = A × B} (λ x. F x.0 × G x.1) (λ x. v x.0 ++ w x.1) (λ x. b x.0 ++ c x.1)
spells_then {p} {q} {v = v} {w = w} s t = record {
  allowed = λ x h. then-join p q (v x.0) (w x.1) (s.allowed x.0 h.0) (t.allowed x.1 h.1);
  laid = λ x h. then-bits p q (v x.0) (w x.1) (s.allowed x.0 h.0) ∙ ap₂ ◌++◌ (s.laid x.0 h.0) (t.laid x.1 h.1);
  only = λ vs h.
      let y = then-split p q vs h in
      let a = s.only y.us y.first in
      let b = t.only y.ws y.second in
      ((a.0, b.0), (a.1, b.1), ap₂ ◌++◌ a.2 b.2 ∙ y.join);
}

-- ── a number of them ──

pub spells-times : {p : Items} {A : Type 0} {F : A → Type 0} {v : A → List ℤ} {b : A → List Bool} (n : ℕ) → Spells p F v b
    → Spells (times n p) {A = List A} (λ xs. (length xs ≡ n) × Each F xs) (λ xs. in_order (map v xs)) (λ xs. in_order (map b xs))
unfolding times
spells-times {A = A} {F} {v} {b} zero s = spells_as (spells-stop {A = Unit {0}} {F = λ x. Unit {0}} tt tt) from (λ x h. ([], (refl, tt), refl))
  where
    from : (xs : List A) → (length xs ≡ 0) × Each F xs → (x : Unit {0}) × Unit {0} × (in_order (map v xs) ≡ []) × (in_order (map b xs) ≡ [])
    from [] h = (tt, tt, refl, refl)
    from (x ∷ xs) h = absurd (omega (arith, h.0))
spells-times {A = A} {F} {v} {b} (suc n) s =
    spells_as (spells_then s (spells-times n s)) from (λ x h. (x.0 ∷ x.1, (ap suc h.1.0, (h.0, h.1.1)), refl))
  where
    from : (xs : List A) → (length xs ≡ suc n) × Each F xs
        → (x : A × List A) × (F x.0 × ((length x.1 ≡ n) × Each F x.1)) × (in_order (map v xs) ≡ v x.0 ++ in_order (map v x.1)) × (in_order (map b xs) ≡ b x.0 ++ in_order (map b x.1))
    from [] h = absurd (omega (arith, h.0))
    from (x ∷ xs) h = ((x, xs), (h.1.0, (omega (arith, h.0), h.1.1)), refl, refl)
