-- The pieces of the layout as items: numbers, addresses, runs of items and of octets, the fields of a record with its
-- extensions flag, and indices.
-- Assumes nothing.
use Prim.Native.Nat.{ℕ, zero, suc, ◌-◌, ◌≤◌, min}
use mathlib.Core.Bool.{Bool, true, false, cond, false≢true, and-eq-true_iff}
use mathlib.Core.Path.{◌≡◌, refl, sym, ap, ◌∙◌}
use mathlib.Core.List.{List, [], ◌∷◌, ◌++◌, map, append-nil}
use native.Mathlib.Omega.{arith}
use native.Mathlib.Nat.{sub-zero}
use lib.Dec.{leb, ltb, eqb}
use lib.IntN.{ℤ, pos, negsuc, ◌-ℤ◌, +ℤ_idr}
use lib.ListN.{length, get_or, drop, replicate}
use borrow.Author.Tests.{leb-true, leb-false, le-leb, lt-ltb, ltb-true}
use Rattle.bits.specs.Bits.{bits_of, width, unpack}
use Rattle.item.specs.Code.{Code, number, variable, length_within, index, low_of, of_natural, natural, allows, allows_offset, value_bits, offset_bits, spelling, base, index_width}
use Rattle.items.specs.Items.{Items, stop, ask, one, times}
use Rattle.encoding.specs.Rows.{fields}
use Rattle.lm.specs.Clause5.{in_order, length_bits, address_bits, Element, Extensions, absent, present, flag, flag_value, octets_values, extensions_values, extensions_bits, Each, Octets, ExtensionsWithin}
use Rattle.lm.proofs.Spelling.{Spells, spells_as, spells-ask, spells-stop, spells_then, spells-times}

-- ── an item whose lowest value is 0 ──

module _ (c : Code) (low : low_of c ≡ pos 0) where
  offset_is : (n : ℕ) → pos n -ℤ low_of c ≡ pos n
  offset_is n = ap (pos n -ℤ◌) low ∙ +ℤ_idr (pos n)

  allows-natural : (n : ℕ) → allows_offset c n ≡ true → allows c (pos n) ≡ true
  allows-natural n h = ap (of_natural (allows_offset c)) (offset_is n) ∙ h

  bits-natural : (n : ℕ) → value_bits c (pos n) ≡ offset_bits c n
  bits-natural n = ap (λ d. offset_bits c (natural d)) (offset_is n)

  allowed-natural : (n : ℕ) → allows c (pos n) ≡ true → allows_offset c n ≡ true
  allowed-natural n h = ap (of_natural (allows_offset c)) (sym (offset_is n)) ∙ h

  not_negative : (n : ℕ) → allows c (negsuc n) ≡ true → ⊥
  not_negative n h = false≢true (ap (of_natural (allows_offset c)) (sym (ap (negsuc n -ℤ◌) low ∙ +ℤ_idr (negsuc n))) ∙ h)

  pub spells_one : Spells (one c) (λ n. allows_offset c n ≡ true) (λ n. pos n ∷ []) (offset_bits c)
  unfolding one
  spells_one =
      spells_as (spells-ask {F = λ n. allows_offset c n ≡ true} c (λ v. stop) pos allows-natural next)
      (λ n h. (n, h, refl, sym (append-nil (value_bits c (pos n)) ∙ bits-natural n)))
      (λ n h. (n, h, refl))
    where
      next : (t : ℤ) → allows c t ≡ true → Spells stop (λ n. (pos n ≡ t) × (allows_offset c n ≡ true)) (λ n. []) (λ n. [])
      next (pos n) h = spells-stop n (refl, allowed-natural n h)
      next (negsuc n) h = absurd (not_negative n h)

-- a number from 0 to span
pub spells-number : (span : ℕ) → Spells (one (number (pos 0) span)) (λ n. n ≤ span) (λ n. pos n ∷ []) (bits_of (width span))
spells-number span = spells_as (spells_one (number (pos 0) span) refl) (λ n h. (n, le-leb n span h, refl, refl)) (λ n h. (n, leb-true n span h, refl))

-- an address
address-bits : (n : ℕ) → address_bits n ≡ offset_bits variable n
unfolding address_bits
address-bits n = go (ltb n 128) (ltb n 16512) (ltb n 2113664)
  where
    go : (t u w : Bool)
        → cond t (false ∷ bits_of 7 n) (cond u (true ∷ false ∷ bits_of 14 (n - 128)) (cond w (true ∷ true ∷ false ∷ bits_of 21 (n - 16512)) (true ∷ true ∷ true ∷ false ∷ bits_of 28 (n - 2113664))))
        ≡ spelling (cond t 0 (cond u 1 (cond w 2 3))) (n - base (cond t 0 (cond u 1 (cond w 2 3))))
    go true u w = ap (λ m. false ∷ bits_of 7 m) (sym (sub-zero n))
    go false true w = refl
    go false false true = refl
    go false false false = refl

pub spells-address : Spells (one variable) (λ n. n ≤ 270549119) (λ n. pos n ∷ []) address_bits
spells-address =
    spells_as (spells_one variable refl) (λ n h. (n, le-leb n 270549119 h, refl, address-bits n)) (λ n h. (n, leb-true n 270549119 h, refl))

-- ── runs ──

length-bits : (least most n : ℕ) → length_bits n ≡ offset_bits (length_within least most) n
unfolding length_bits
length-bits least most n = go (leb n 127) refl
  where
    go : (t : Bool) → leb n 127 ≡ t → cond t (false ∷ bits_of 7 n) (true ∷ false ∷ bits_of 14 n) ≡ spelling (cond (ltb n 128) 0 1) n
    go true e = rw (lt-ltb n 128 (omega (arith, leb-true n 127 e)))
    go false e = go' (ltb n 128) refl
      where
        go' : (u : Bool) → ltb n 128 ≡ u → true ∷ false ∷ bits_of 14 n ≡ spelling (cond u 0 1) n
        go' true q = absurd (omega (arith, leb-false n 127 e, ltb-true n 128 q))
        go' false q = refl

-- as many as a length says, each as F says
module _ {p : Items} {A : Type 0} {F : A → Type 0} {v : A → List ℤ} {b : A → List Bool} (least most : ℕ) (small : most ≤ 16383) (each : Spells p F v b) where
  abbrev RunFine : List A → Type 0
  RunFine xs = Each F xs × (least ≤ length xs) × (length xs ≤ most)

  within_limits : (n : ℕ) → least ≤ n → n ≤ most → allows_offset (length_within least most) n ≡ true
  within_limits n l h = rw (le-leb least n l, le-leb n (min most 16383) (omega arith))

  limits_within : (n : ℕ) → allows_offset (length_within least most) n ≡ true → (least ≤ n) × (n ≤ most)
  limits_within n h =
      let w = (and-eq-true_iff (leb least n) (leb n (min most 16383))).0 h in
      (leb-true least n w.0, omega (arith, leb-true n (min most 16383) w.1))

  pub spells-run : Spells (ask (length_within least most) (λ v. times (natural v) p)) RunFine (λ xs. pos (length xs) ∷ in_order (map v xs)) (λ xs. length_bits (length xs) ++ in_order (map b xs))
  spells-run =
      spells_as
      (spells-ask {F = RunFine} (length_within least most) (λ v. times (natural v) p) (λ xs. pos (length xs))
      (λ xs h. allows-natural (length_within least most) refl (length xs) (within_limits (length xs) h.1 h.2)) next)
      (λ xs h. (xs, h, refl, ap (◌++ in_order (map b xs)) (length-bits least most (length xs) ∙ sym (bits-natural (length_within least most) refl (length xs)))))
      (λ xs h. (xs, h, refl))
    where
      next : (t : ℤ) → allows (length_within least most) t ≡ true → Spells (times (natural t) p) (λ xs. (pos (length xs) ≡ t) × RunFine xs) (λ xs. in_order (map v xs)) (λ xs. in_order (map b xs))
      next (pos n) h =
          let m = limits_within n (allowed-natural (length_within least most) refl n h) in
          spells_as (spells-times n each)
          (λ xs f. let q = f.0 in let e : length xs ≡ n = cc in (xs, (e, f.1.0), refl, refl))
          (λ xs f. (xs, (ap pos f.0, (f.1, omega (arith, f.0, m.0), omega (arith, f.0, m.1))), refl))
      next (negsuc n) h = absurd (not_negative (length_within least most) refl n h)

octet-values : (os : List ℕ) → in_order (map (λ n. pos n ∷ []) os) ≡ map pos os
octet-values [] = refl
octet-values (o ∷ os) = ap (pos o ∷◌) (octet-values os)

octet-bits : (os : List ℕ) → in_order (map (bits_of 8) os) ≡ unpack os
unfolding unpack
octet-bits [] = refl
octet-bits (o ∷ os) = ap (bits_of 8 o ++◌) (octet-bits os)

pub spells-octet : Spells (one (number (pos 0) 255)) (λ n. n ≤ 255) (λ n. pos n ∷ []) (bits_of 8)
unfolding width
spells-octet = spells-number 255

pub spells-octets : (least : ℕ) → Spells (ask (length_within least 16383) (λ v. times (natural v) (one (number (pos 0) 255))))
    (λ os. Octets os × (least ≤ length os) × (length os ≤ 16383)) octets_values (λ os. length_bits (length os) ++ unpack os)
spells-octets least =
    spells_as (spells-run least 16383 (omega arith) spells-octet)
    (λ os h. (os, h, ap (pos (length os) ∷◌) (sym (octet-values os)), ap (length_bits (length os) ++◌) (sym (octet-bits os))))
    (λ os h. (os, h, ap (pos (length os) ∷◌) (sym (octet-values os))))

-- n octets
pub spells-octet-run : (n : ℕ) {p : Items} → Spells p (λ n. n ≤ 255) (λ n. pos n ∷ []) (bits_of 8) → Spells (times n p) (λ os. (length os ≡ n) × Octets os) (λ os. map pos os) unpack
spells-octet-run n octet =
    spells_as (spells-times n octet) (λ os h. (os, h, sym (octet-values os), sym (octet-bits os))) (λ os h. (os, h, sym (octet-values os)))

-- ── the fields of a record ──

module _ (g : ℕ → Items) where
  pub spells_end : Spells (fields g [] []) {A = Unit {0}} (λ x. Unit {0}) (λ x. []) (λ x. [])
  unfolding fields
  spells_end = spells-stop tt tt

  module _ (r : ℕ) (rs : List ℕ) (ps : List Bool) {B : Type 0} {G : B → Type 0} {w : B → List ℤ} {c : B → List Bool} where
    pub spells-field : {A : Type 0} {F : A → Type 0} {v : A → List ℤ} {b : A → List Bool} → Spells (g r) F v b → Spells (fields g rs ps) G w c
        → Spells (fields g (r ∷ rs) (true ∷ ps)) {A = A × B} (λ x. F x.0 × G x.1) (λ x. v x.0 ++ w x.1) (λ x. b x.0 ++ c x.1)
    unfolding fields
    spells-field s t = spells_then s t

    -- extensions, there or not
    pub spells-extensions : (e : Bool) → Spells (g r) (λ es. ExtensionsWithin (present es)) (λ es. extensions_values (present es)) (λ es. extensions_bits (present es)) → Spells (fields g rs ps) G w c
        → Spells (fields g (r ∷ rs) (e ∷ ps)) {A = Extensions × B} (λ x. ((flag x.0 ≡ e) × ExtensionsWithin x.0) × G x.1)
        (λ x. extensions_values x.0 ++ w x.1) (λ x. extensions_bits x.0 ++ c x.1)
    unfolding fields
    spells-extensions true s t = spells_as (spells_then s t) from (λ x h. ((present x.0, x.1), ((refl, h.0), h.1), refl))
      where
        from : (x : Extensions × B) → ((flag x.0 ≡ true) × ExtensionsWithin x.0) × G x.1
            → (y : List Element × B) × (ExtensionsWithin (present y.0) × G y.1) × (extensions_values x.0 ++ w x.1 ≡ extensions_values (present y.0) ++ w y.1) × (extensions_bits x.0 ++ c x.1 ≡ extensions_bits (present y.0) ++ c y.1)
        from (absent, x) h = absurd (false≢true h.0.0)
        from (present es, x) h = ((es, x), (h.0.1, h.1), refl, refl)
    spells-extensions false s t = spells_as t from (λ x h. ((absent, x), ((refl, tt), h), refl))
      where
        from : (x : Extensions × B) → ((flag x.0 ≡ false) × ExtensionsWithin x.0) × G x.1
            → (y : B) × G y × (extensions_values x.0 ++ w x.1 ≡ w y) × (extensions_bits x.0 ++ c x.1 ≡ c y)
        from (absent, x) h = (x, h.1, refl, refl)
        from (present es, x) h = absurd (false≢true (sym h.0.0))

-- extensions as the last field
pub spells_last : (g : ℕ → Items) (r : ℕ) (e : Bool) → Spells (g r) (λ es. ExtensionsWithin (present es)) (λ es. extensions_values (present es)) (λ es. extensions_bits (present es))
    → Spells (fields g (r ∷ []) (e ∷ [])) (λ x. (flag x ≡ e) × ExtensionsWithin x) extensions_values (λ x. extensions_bits x ++ [])
spells_last g r e s =
    spells_as (spells-extensions g r [] [] e s (spells_end g))
    (λ x h. ((x, tt), (h, tt), sym (append-nil (extensions_values x)), refl))
    (λ x h. (x.0, h.0, sym (append-nil (extensions_values x.0))))

-- the flag in front
flag-bits : (x : Extensions) → value_bits (number (pos 0) 1) (flag_value x) ≡ flag x ∷ []
unfolding width bits_of
flag-bits absent = refl
flag-bits (present es) = refl

flag-allowed : (x : Extensions) → allows (number (pos 0) 1) (flag_value x) ≡ true
flag-allowed absent = refl
flag-allowed (present es) = refl

flag-value : (x : Extensions) → flag_value x ≡ pos (cond (flag x) 1 0)
flag-value absent = refl
flag-value (present es) = refl

value-flag : (x : Extensions) (e : Bool) → flag_value x ≡ pos (cond e 1 0) → flag x ≡ e
value-flag absent true h = cc
value-flag absent false h = refl
value-flag (present es) true h = refl
value-flag (present es) false h = cc

module _ {A : Type 0} {F : A → Type 0} {v : A → List ℤ} {b : A → List Bool} (k : Bool → Items) (extensions : A → Extensions)
    (rest : (e : Bool) → Spells (k e) (λ a. (flag (extensions a) ≡ e) × F a) v b) where
  flagged : (e : Bool) → Spells (k e) (λ a. (flag_value (extensions a) ≡ pos (cond e 1 0)) × F a) v b
  flagged e =
      spells_as (rest e)
      (λ a f. (a, (value-flag (extensions a) e f.0, f.1), refl, refl))
      (λ a f. (a, (flag-value (extensions a) ∙ ap (λ e. pos (cond e 1 0)) f.0, f.1), refl))

  pub spells-flag : Spells (ask (number (pos 0) 1) (λ v. k (eqb (natural v) 1))) F (λ a. flag_value (extensions a) ∷ v a) (λ a. flag (extensions a) ∷ b a)
  spells-flag =
      spells_as (spells-ask {F = F} (number (pos 0) 1) (λ v. k (eqb (natural v) 1)) (λ a. flag_value (extensions a)) (λ a f. flag-allowed (extensions a)) next)
      (λ a f. (a, f, refl, ap (◌++ b a) (sym (flag-bits (extensions a)))))
      (λ a f. (a, f, refl))
    where
      next : (t : ℤ) → allows (number (pos 0) 1) t ≡ true → Spells (k (eqb (natural t) 1)) (λ a. (flag_value (extensions a) ≡ t) × F a) v b
      next (pos zero) h = flagged false
      next (pos (suc zero)) h = flagged true
      next (pos (suc (suc n))) h = absurd (omega (arith, leb-true (suc (suc n)) 1 (allowed-natural (number (pos 0) 1) refl (suc (suc n)) h)))
      next (negsuc n) h = absurd (not_negative (number (pos 0) 1) refl n h)

-- ── a choice ──

-- what is one kind of several, told by its tag
pub spells-branch : {p : Items} {A B : Type 0} {F : A → Type 0} {v : A → List ℤ} {b : A → List Bool} {tag : A → ℕ} {n : ℕ} (kind : B → A)
    → ((y : B) → tag (kind y) ≡ n)
    → ((a : A) → tag a ≡ n → (y : B) × (kind y ≡ a))
    → Spells p (λ y. F (kind y)) (λ y. v (kind y)) (λ y. b (kind y))
    → Spells p (λ a. (tag a ≡ n) × F a) v b
spells-branch {F = F} {v} {b} kind tagged of_kind s =
    spells_as s
    (λ a f. let y = of_kind a f.0 in (y.0, rw y.1 f.1, ap v (sym y.1), ap b (sym y.1)))
    (λ y f. (kind y, (tagged y, f), refl))

none_after : (n m : ℕ) → get_or (replicate m false) n false ≡ false
none_after n zero = refl
none_after zero (suc m) = refl
none_after (suc n) (suc m) = none_after n m

-- m reserved branches: none of them is there
pub reserved : (n m : ℕ) → get_or (replicate m false) n false ≡ true → ⊥
reserved n m h = false≢true (sym (none_after n m) ∙ h)

-- how what is chosen falls apart: a branch that is there, whose index is the first value and the first bits
pub record Chosen {A : Type 0} (branches : List Bool) (tag : A → ℕ) (v : A → List ℤ) (b : A → List Bool) (a : A) : Type 0 where
  pub there : get_or branches (tag a) false ≡ true
  pub value : v a ≡ pos (tag a) ∷ drop 1 (v a)
  pub bits : b a ≡ bits_of (index_width branches) (tag a) ++ drop (index_width branches) (b a)

pub spells-choice : {A : Type 0} {F : A → Type 0} {v : A → List ℤ} {b : A → List Bool} (branches : List Bool) (g : ℕ → Items) (tag : A → ℕ)
    → ((a : A) → Chosen branches tag v b a)
    → ((n : ℕ) → get_or branches n false ≡ true → Spells (g n) (λ a. (tag a ≡ n) × F a) (λ a. drop 1 (v a)) (λ a. drop (index_width branches) (b a)))
    → Spells (ask (index branches) (λ t. g (natural t))) F v b
spells-choice {A} {F} {v} {b} branches g tag chosen branch =
    spells_as
    (spells-ask {F = F} (index branches) (λ t. g (natural t)) (λ a. pos (tag a)) (λ a f. allows-natural (index branches) refl (tag a) (chosen a).there) next)
    (λ a f. (a, f, (chosen a).value, (chosen a).bits ∙ ap (◌++ drop (index_width branches) (b a)) (sym (bits-natural (index branches) refl (tag a)))))
    (λ a f. (a, f, (chosen a).value))
  where
    next : (t : ℤ) → allows (index branches) t ≡ true → Spells (g (natural t)) (λ a. (pos (tag a) ≡ t) × F a) (λ a. drop 1 (v a)) (λ a. drop (index_width branches) (b a))
    next (pos n) h =
        spells_as (branch n (allowed-natural (index branches) refl n h))
        (λ a f. let q = f.0 in (a, (cc, f.1), refl, refl))
        (λ a f. (a, (ap pos f.0, f.1), refl))
    next (negsuc n) h = absurd (not_negative (index branches) refl n h)
