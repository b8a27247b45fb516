-- The laws of a stream of units, for any machine that is steady.
use Prim.Native.Nat.{ℕ, zero, suc, ◌<◌}
use mathlib.Core.Path.{◌≡◌, refl, sym, ap, ◌∙◌, subst}
use mathlib.Core.List.{List, [], ◌∷◌, ◌++◌, append_assoc}
use native.Mathlib.Omega.{arith}
use lib.ListN.{length, take, drop, length-drop, take-append-drop}
use lib.Seq.{take-append-le, drop-append-le}
use Rattle.machine.specs.declared.Front.{Front}
use Rattle.machine.specs.declared.Front.TheVariants.{Whole, Part, Wrong}
use Rattle.machine.specs.Machine.{Machine, Gives, unit, stop, end, Given, given_by, given_within, given, Units, none, more, Steady, joined, singly, Laws}

module _ {A : Type 0} (m : Machine A) (steady : Steady m) where
  -- ---- some text

  by_front : (a : A) (s : List ℕ) (rest : ℕ → Given A) (f : Front) → m.front a s ≡ f
      → ((size : ℕ) → m.front a s ≡ Whole size → Gives m (m.next a (take size s)) (drop size s) (rest size).text (rest size).left)
      → Gives m a s (given_by m a s f rest).text (given_by m a s f rest).left
  by_front a s rest (Whole size) e behind = unit size e (behind size e)
  by_front a s rest Part e behind = end e
  by_front a s rest Wrong e behind = stop e

  within_text : (most : ℕ) (a : A) (s : List ℕ) → length s < most → Gives m a s (given_within most m a s).text (given_within most m a s).left
  unfolding given_within
  within_text zero a s h = absurd (omega arith)
  within_text (suc most) a s h =
      by_front a s (λ size. given_within most m (m.next a (take size s)) (drop size s)) (m.front a s) refl
      (λ size e. within_text most (m.next a (take size s)) (drop size s) (omega (arith, length-drop size s, (steady.some a s size e).0, (steady.some a s size e).1)))

  some_text : (a : A) (s : List ℕ) → Gives m a s (given m a s).text (given m a s).left
  unfolding given
  some_text a s = within_text (suc (length s)) a s (omega arith)

  -- ---- one text

  same_text : {a b c : A} {s t u : List ℕ} → Gives m a s t b → Gives m a s u c → (t ≡ u) × (b ≡ c)
  same_text {a} {b} {c} {s} (unit {text = t} size e g) (unit {text = u} size' e' g') =
      let same : size' ≡ size = cc in
      let rest = rw same at g' in
      let r = same_text g rest in
      (rw same (ap (λ (x : List ℕ). m.line a (take size s) ++ x) r.0), r.1)
  same_text (unit size e g) (stop e') = let z : ◌≡◌ {A = ℕ} 0 1 = cc in absurd (omega arith)
  same_text (unit size e g) (end e') = let z : ◌≡◌ {A = ℕ} 0 1 = cc in absurd (omega arith)
  same_text (stop e) (unit size e' g) = let z : ◌≡◌ {A = ℕ} 0 1 = cc in absurd (omega arith)
  same_text (stop e) (stop e') = (refl, refl)
  same_text (stop e) (end e') = let z : ◌≡◌ {A = ℕ} 0 1 = cc in absurd (omega arith)
  same_text (end e) (unit size e' g) = let z : ◌≡◌ {A = ℕ} 0 1 = cc in absurd (omega arith)
  same_text (end e) (stop e') = let z : ◌≡◌ {A = ℕ} 0 1 = cc in absurd (omega arith)
  same_text (end e) (end e') = (refl, refl)

  -- ---- cut after a whole unit

  going_on : {a b c : A} {x t : List ℕ} (y u : List ℕ) → Units m a x t b → Gives m b y u c → Gives m a (x ++ y) (t ++ u) c
  going_on y u none g = g
  going_on {a} {b} {c} {x} y u (more {text = t} size e us) g =
      let k = steady.some a x size e in
      let same_unit : take size (x ++ y) ≡ take size x = take-append-le size x y k.1 in
      let same_rest : drop size (x ++ y) ≡ drop size x ++ y = drop-append-le size x y k.1 in
      let rest : Gives m (m.next a (take size (x ++ y))) (drop size (x ++ y)) (t ++ u) c = rw (same_unit, same_rest) (going_on y u us g) in
      let whole_text : m.line a (take size (x ++ y)) ++ (t ++ u) ≡ (m.line a (take size x) ++ t) ++ u = rw same_unit (sym (append_assoc (m.line a (take size x)) t u)) in
      subst (λ (v : List ℕ). Gives m a (x ++ y) v c) whole_text (unit size (steady.stays a x y size e) rest)

  alone : {a b : A} {x t : List ℕ} → m.front b [] ≡ Part → Units m a x t b → Gives m a x (t ++ m.ended b []) b
  alone e none = end e
  alone {a} {b} {x} e (more {text = t} size w us) =
      let k : m.line a (take size x) ++ (t ++ m.ended b []) ≡ (m.line a (take size x) ++ t) ++ m.ended b [] = sym (append_assoc (m.line a (take size x)) t (m.ended b [])) in
      subst (λ (v : List ℕ). Gives m a x v b) k (unit size w (alone e us))

  -- ---- one by one

  one_by_one : {a b : A} {x t : List ℕ} → Units m a x t b → (us : List (List ℕ)) × (joined us ≡ x) × (singly m a us ≡ b)
  unfolding joined singly
  one_by_one none = ([], refl, refl)
  one_by_one {a} {b} {x} (more size e us) =
      let r = one_by_one us in
      (take size x ∷ r.0, ap (λ (l : List ℕ). take size x ++ l) r.1 ∙ take-append-drop size x, r.2)

  pub laws : Laws m
  laws = record {
    text = λ a s. ((given m a s).text, (given m a s).left, some_text a s);
    found = some_text;
    one = λ a s t u b c g h. same_text g h;
    cut = λ a b c x y t u us g. going_on y u us g;
    first = λ a b x t e us. alone e us;
    each = λ a b x t us. one_by_one us;
  }
