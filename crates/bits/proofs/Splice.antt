-- A list with a part replaced by another of the same length, over the type of its elements.
use Prim.Native.Nat.{ℕ, ◌+◌, ◌≤◌}
use mathlib.Core.Path.{◌≡◌, refl, sym, ap, ap₂, ◌∙◌}
use mathlib.Core.List.{List, ◌++◌, append_assoc}
use native.Mathlib.Omega.{arith}
use native.Mathlib.Nat.{add_assoc, add-zero, zero-add}
use lib.ListN.{length, take, drop, length-append, length-drop}
use lib.Seq.{length-take-le, take_at, drop_at, take-append-le, drop-append-le, take-append-add, drop-append-add, drop-drop}

module _ {A : Type 0} where
  -- b with x in the place of those from p on
  abbrev pub spliced : List A → ℕ → List A → List A
  spliced b p x = take p b ++ (x ++ drop (p + length x) b)

  module _ (b : List A) (p : ℕ) (x : List A) (fits : p + length x ≤ length b) where
    length_front : length (take p b) ≡ p
    length_front = length-take-le p b (omega arith)

    pub length-spliced : length (spliced b p x) ≡ length b
    length-spliced = simp (length-append, length_front, length-drop) (omega arith)

    -- what stands before the part stays
    pub take-spliced : take p (spliced b p x) ≡ take p b
    take-spliced = take_at (take p b) (x ++ drop (p + length x) b) p length_front

    -- the part is x
    pub part_spliced : take (length x) (drop p (spliced b p x)) ≡ x
    part_spliced =
        rw (drop_at (take p b) (x ++ drop (p + length x) b) p length_front)
        (take_at x (drop (p + length x) b) (length x) refl)

    -- a part of a list that z follows
    pub spliced-append : (z : List A) → spliced (b ++ z) p x ≡ spliced b p x ++ z
    spliced-append z =
        let h : p ≤ length b = omega arith in
        rw (take-append-le p b z h, drop-append-le (p + length x) b z fits)
        (simp append_assoc)

  -- a part of a list that follows a
  pub append-spliced : (a b : List A) (p : ℕ) (x : List A) → spliced (a ++ b) (length a + p) x ≡ a ++ spliced b p x
  append-spliced a b p x =
      rw (take-append-add a b p, add_assoc (length a) p (length x), drop-append-add a b (p + length x))
      (append_assoc a (take p b) (x ++ drop (p + length x) b))

  -- m, between a and c, is the part
  pub spliced-between : (a m c x : List A) (p : ℕ) → length a ≡ p → length m ≡ length x → spliced (a ++ m ++ c) p x ≡ a ++ x ++ c
  spliced-between a m c x p la lm =
      let l : length (a ++ m) ≡ p + length x = rw length-append (omega arith) in
      rw (drop_at (a ++ m) c (p + length x) l, append_assoc a m c, take_at a (m ++ c) p la)
      (sym (append_assoc a x c))

  -- y replaced after x is x and y replaced at once
  pub spliced-spliced : (b : List A) (p : ℕ) (x y : List A) → p + length x ≤ length b
      → spliced (spliced b p x) (p + length x) y ≡ spliced b p (x ++ y)
  spliced-spliced b p x y h =
      let q = p + length x in
      let front = take p b ++ x in
      let l : length front + 0 ≡ q = rw (add-zero, length-append, length_front b p x h) in
      let e : spliced b p x ≡ front ++ drop q b = sym (append_assoc (take p b) x (drop q b)) in
      let n : q + length y ≡ p + length (x ++ y) = rw length-append (add_assoc p (length x) (length y)) in
      let d : drop (0 + length y) (drop q b) ≡ drop (p + length (x ++ y)) b =
      ap (λ (k : ℕ). drop k (drop q b)) (zero-add (length y)) ∙ drop-drop (length y) q b ∙ ap (λ (k : ℕ). drop k b) n in
      ap₂ (λ (l : List A) (k : ℕ). spliced l k y) e (sym l)
      ∙ append-spliced front (drop q b) 0 y
      ∙ ap (λ (r : List A). front ++ (y ++ r)) d
      ∙ simp append_assoc

  -- a part of a list that z follows
  pub part-append : (b z : List A) (p k : ℕ) → p + k ≤ length b → take k (drop p (b ++ z)) ≡ take k (drop p b)
  part-append b z p k h =
      let hp : p ≤ length b = omega arith in
      let hk : k ≤ length (drop p b) = rw length-drop (omega arith) in
      rw (drop-append-le p b z hp, take-append-le k (drop p b) z hk)
