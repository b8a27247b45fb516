-- Laws of values in memory: what storing them one after another leaves behind, and which values octets then hold.
use Prim.Native.Nat.{ℕ, zero, suc, ◌+◌, ◌-◌, ◌*◌, ◌/◌, ◌≤◌, ◌<◌, ◌^◌}
use mathlib.Core.Path.{◌≡◌, refl, sym, ap, ◌∙◌}
use mathlib.Core.Bool.{Bool, true, false}
use mathlib.Core.List.{List, [], ◌∷◌, ◌++◌, append_assoc}
use native.Mathlib.Nat.{add-zero, zero-add, suc-add}
use native.Mathlib.Omega.{arith}
use borrow.Author.Tests.{leb-true, leb-false, le-leb, lt-leb}
use lib.Dec.{leb}
use lib.IntN.{ℤ, pos}
use lib.Signed.{mag}
use lib.ListN.{length, get_or, take, drop, set, replicate, length-append}
use Rattle.std.proofs.lemmas.List.Edits.{paste_all}
use lib.Seq.{paste, take_at, drop_at, drop-drop, sets, sets-eq, length-sets}
use Rattle.values.specs.Values.{complement, uncomplement, little_number, value_octets, list_octets, values_from, values_in, set_value, store_all}
use Rattle.values.specs.TwosComplement.{Fitting}
use Rattle.values.proofs.Complement.{complement_lt, uncomplement-complement}
use Rattle.values.proofs.LittleEndian.{length-little_endian, little_endian_lt, little_number-little_endian}

-- ---- the octets of values

pub length-value_octets : (v : ℤ) → length (value_octets v) ≡ 8
unfolding value_octets
length-value_octets v = length-little_endian 8 (complement v)

pub length-list_octets : (vs : List ℤ) → length (list_octets vs) ≡ 8 * length vs
unfolding list_octets
length-list_octets [] = refl
length-list_octets (v ∷ vs) =
    length-append (value_octets v) (list_octets vs) ∙ omega (arith, length-value_octets v, length-list_octets vs)

append_lt : (bound : ℕ) (xs ys : List ℕ) → ((i : ℕ) → get_or xs i 0 < bound) → ((i : ℕ) → get_or ys i 0 < bound)
    → (i : ℕ) → get_or (xs ++ ys) i 0 < bound
append_lt bound [] ys f g i = g i
append_lt bound (x ∷ xs) ys f g zero = f 0
append_lt bound (x ∷ xs) ys f g (suc i) = append_lt bound xs ys (λ j. f (suc j)) g i

pub list_octets_lt : (vs : List ℤ) (i : ℕ) → get_or (list_octets vs) i 0 < 256
unfolding list_octets value_octets
list_octets_lt [] i = omega arith
list_octets_lt (v ∷ vs) i = append_lt 256 (value_octets v) (list_octets vs) (little_endian_lt 8 (complement v)) (list_octets_lt vs) i

-- ---- stores one after another

-- a list stored in two parts, for any way of storing that goes element by element
in_two : {A B : Type 0} (put : List A → ℕ → B → List A) (all : List A → ℕ → List B → List A)
    → ((l : List A) (i : ℕ) → all l i [] ≡ l)
    → ((l : List A) (i : ℕ) (v : B) (vs : List B) → all l i (v ∷ vs) ≡ all (put l i v) (suc i) vs)
    → (us vs : List B) (l : List A) (i : ℕ) → all l i (us ++ vs) ≡ all (all l i us) (i + length us) vs
in_two put all none more [] vs l i =
    ap (λ (k : ℕ). all l k vs) (sym (add-zero i)) ∙ ap (λ m. all m (i + 0) vs) (sym (none l i))
in_two put all none more (u ∷ us) vs l i =
    let e : suc i + length us ≡ i + suc (length us) = omega arith in
    more l i u (us ++ vs)
    ∙ in_two put all none more us vs (put l i u) (suc i)
    ∙ ap (λ (k : ℕ). all (all (put l i u) (suc i) us) k vs) e
    ∙ ap (λ m. all m (i + suc (length us)) vs) (sym (more l i u us))

module _ {A : Type 0} (put : List A → ℕ → ℤ → List A) where
  pub store_all-append : (us vs : List ℤ) (l : List A) (i : ℕ)
      → store_all put l i (us ++ vs) ≡ store_all put (store_all put l i us) (i + length us) vs
  store_all-append = in_two put (store_all put) (λ l i. refl) (λ l i v vs. refl)

  pub length-store_all : ((l : List A) (i : ℕ) (v : ℤ) → length (put l i v) ≡ length l)
      → (vs : List ℤ) (l : List A) (i : ℕ) → length (store_all put l i vs) ≡ length l
  length-store_all same [] l i = refl
  length-store_all same (v ∷ vs) l i = length-store_all same vs (put l i v) (suc i) ∙ same l i v

  -- where the list has no place for them, nothing is stored
  pub store_all-out : (l : List A) (i : ℕ) → ((j : ℕ) (v : ℤ) → i ≤ j → put l j v ≡ l) → (vs : List ℤ) → store_all put l i vs ≡ l
  store_all-out l i out [] = refl
  store_all-out l i out (v ∷ vs) =
      ap (λ m. store_all put m (suc i) vs) (out i v (omega arith)) ∙ store_all-out l (suc i) (λ j w h. out j w (omega arith)) vs

module _ {A : Type 0} where
  sets-append : (us vs l : List A) (i : ℕ) → sets l i (us ++ vs) ≡ sets (sets l i us) (i + length us) vs
  sets-append = in_two set sets (λ l i. refl) (λ l i v vs. refl)

  sets-between : (vs l : List A) (i : ℕ) → i + length vs ≤ length l → sets l i vs ≡ take i l ++ (vs ++ drop (i + length vs) l)
  sets-between vs l i h = sets-eq vs l i h ∙ append_assoc (take i l) vs (drop (i + length vs) l)

  take-sets : (vs l : List A) → length vs ≤ length l → take (length vs) (sets l 0 vs) ≡ vs
  take-sets vs l h =
      ap (take (length vs)) (sets-between vs l 0 (omega arith)) ∙ take_at vs (drop (0 + length vs) l) (length vs) refl

-- ---- one value as octets

module _ (o : List ℕ) (i : ℕ) (v : ℤ) where
  pub set_value-sets : 8 * i + 8 ≤ length o → set_value o i v ≡ sets o (8 * i) (value_octets v)
  unfolding set_value
  set_value-sets h =
      let e : 8 * i + length (value_octets v) ≡ 8 * i + 8 = ap (λ (k : ℕ). 8 * i + k) (length-value_octets v) in
      rw (le-leb (8 * i + 8) (length o) h)
      (sym (sets-between (value_octets v) o (8 * i) (omega arith) ∙ ap (λ (k : ℕ). take (8 * i) o ++ (value_octets v ++ drop k o)) e))

  -- its octets written over those of the index
  pub set_value-paste : (ys : List ℕ) (n : ℕ) → ys ≡ value_octets v → n ≡ 8 → 8 * i + 8 ≤ length o → paste o (8 * i) ys n ≡ set_value o i v
  unfolding set_value
  set_value-paste ys n e f h =
      let k : n ≡ length ys = f ∙ sym (ap length e ∙ length-value_octets v) in
      paste_all o (8 * i) ys n k ∙ rw (e, f, le-leb (8 * i + 8) (length o) h) refl

  pub set_value-out : length o < 8 * i + 8 → set_value o i v ≡ o
  unfolding set_value
  set_value-out h = rw (lt-leb (8 * i + 8) (length o) h)

pub length-set_value : (o : List ℕ) (i : ℕ) (v : ℤ) → length (set_value o i v) ≡ length o
length-set_value o i v = by_test (leb (8 * i + 8) (length o)) refl
  where
    by_test : (b : Bool) → leb (8 * i + 8) (length o) ≡ b → length (set_value o i v) ≡ length o
    by_test true e = ap length (set_value-sets o i v (leb-true _ _ e)) ∙ length-sets o (8 * i) (value_octets v)
    by_test false e = ap length (set_value-out o i v (leb-false _ _ e))

-- ---- lists of values, as numbers and as octets

store_all-sets : (vs l : List ℤ) (i : ℕ) → store_all set l i vs ≡ sets l i vs
store_all-sets [] l i = refl
store_all-sets (v ∷ vs) l i = store_all-sets vs (set l i v) (suc i)

store_all-octets : (vs : List ℤ) (o : List ℕ) (i : ℕ) → 8 * (i + length vs) ≤ length o
    → store_all set_value o i vs ≡ sets o (8 * i) (list_octets vs)
unfolding list_octets
store_all-octets [] o i h = refl
store_all-octets (v ∷ vs) o i h =
    let one = value_octets v in
    let e : 8 * suc i ≡ 8 * i + length one = omega (arith, length-value_octets v) in
    store_all-octets vs (set_value o i v) (suc i) (omega (arith, length-set_value o i v))
    ∙ ap (λ (l : List ℕ). sets l (8 * suc i) (list_octets vs)) (set_value-sets o i v (omega arith))
    ∙ ap (λ (k : ℕ). sets (sets o (8 * i) one) k (list_octets vs)) e
    ∙ sym (sets-append one (list_octets vs) o (8 * i))

pub length-store_all-set_value : (vs : List ℤ) (o : List ℕ) (i : ℕ) → length (store_all set_value o i vs) ≡ length o
length-store_all-set_value = length-store_all set_value length-set_value

pub store_all-set_value : (vs : List ℤ) (o : List ℕ) (i : ℕ) → 8 * (i + length vs) ≤ length o
    → store_all set_value o i vs ≡ take (8 * i) o ++ (list_octets vs ++ drop (8 * (i + length vs)) o)
store_all-set_value vs o i h =
    let e : 8 * i + length (list_octets vs) ≡ 8 * (i + length vs) = omega (arith, length-list_octets vs) in
    store_all-octets vs o i h
    ∙ sets-between (list_octets vs) o (8 * i) (omega arith)
    ∙ ap (λ (k : ℕ). take (8 * i) o ++ (list_octets vs ++ drop k o)) e

-- ---- stored from the first index on, and the rest cleared

pub stored-values : (vs l : List ℤ) → length vs ≤ length l → take (length vs) (store_all set l 0 vs) ≡ vs
stored-values vs l h = ap (take (length vs)) (store_all-sets vs l 0) ∙ take-sets vs l h

pub stored-octets : (vs : List ℤ) (o : List ℕ) → 8 * length vs ≤ length o
    → take (8 * length vs) (store_all set_value o 0 vs) ≡ list_octets vs
stored-octets vs o h =
    let e = length-list_octets vs in
    ap (take (8 * length vs)) (store_all-octets vs o 0 (omega arith))
    ∙ ap (λ (k : ℕ). take k (sets o 0 (list_octets vs))) (sym e)
    ∙ take-sets (list_octets vs) o (omega arith)

pub cleared-values : (vs l : List ℤ) → length vs ≤ length l
    → take (length vs) (store_all set l 0 vs) ++ replicate (length l - length vs) (pos 0) ≡ vs ++ replicate (length l - length vs) (pos 0)
cleared-values vs l h = ap (λ (r : List ℤ). r ++ replicate (length l - length vs) (pos 0)) (stored-values vs l h)

pub cleared-octets : (vs : List ℤ) (o : List ℕ) → 8 * length vs ≤ length o
    → take (8 * length vs) (store_all set_value o 0 vs) ++ replicate (length o - 8 * length vs) 0
    ≡ list_octets vs ++ replicate (length o - 8 * length vs) 0
cleared-octets vs o h = ap (λ (r : List ℕ). r ++ replicate (length o - 8 * length vs) 0) (stored-octets vs o h)

-- ---- the values that octets hold

pub length-values_from : (n : ℕ) (o : List ℕ) → length (values_from n o) ≡ n
unfolding values_from
length-values_from zero o = refl
length-values_from (suc n) o = ap suc (length-values_from n (drop 8 o))

pub length-values_in : (o : List ℕ) → length (values_in o) ≡ length o / 8
unfolding values_in
length-values_in o = length-values_from (length o / 8) o

pub get_d_values_from : (n : ℕ) (o : List ℕ) (i : ℕ) → i < n
    → get_or (values_from n o) i (pos 0) ≡ uncomplement (little_number (take 8 (drop (8 * i) o)))
unfolding values_from
get_d_values_from zero o i h = absurd (omega arith)
get_d_values_from (suc n) o zero h = refl
get_d_values_from (suc n) o (suc i) h =
    let e : 8 + 8 * i ≡ 8 * suc i = omega arith in
    get_d_values_from n (drop 8 o) i (omega arith)
    ∙ ap (λ (r : List ℕ). uncomplement (little_number (take 8 r))) (drop-drop (8 * i) 8 o ∙ ap (λ (k : ℕ). drop k o) e)

pub get_d_values_in : (o : List ℕ) (i : ℕ) → i < length o / 8
    → get_or (values_in o) i (pos 0) ≡ uncomplement (little_number (take 8 (drop (8 * i) o)))
unfolding values_in
get_d_values_in o i h = get_d_values_from (length o / 8) o i h

pub fitting-cons : (v : ℤ) (vs : List ℤ) → mag v < 2 ^ 63 → Fitting vs → Fitting (v ∷ vs)
fitting-cons v vs h f zero = h
fitting-cons v vs h f (suc i) = f i

module _ (v : ℤ) (r : List ℕ) where
  take-value_octets : take 8 (value_octets v ++ r) ≡ value_octets v
  take-value_octets = take_at (value_octets v) r 8 (length-value_octets v)

  drop-value_octets : drop 8 (value_octets v ++ r) ≡ r
  drop-value_octets = drop_at (value_octets v) r 8 (length-value_octets v)

value-back : (v : ℤ) → mag v < 2 ^ 63 → uncomplement (little_number (value_octets v)) ≡ v
unfolding value_octets
value-back v h =
    ap uncomplement (little_number-little_endian 8 (complement v) (complement_lt v h)) ∙ uncomplement-complement v h

-- values come back from their octets, then those of what follows
pub values_from-list_octets : (vs : List ℤ) (n : ℕ) (r : List ℕ) → Fitting vs
    → values_from (length vs + n) (list_octets vs ++ r) ≡ vs ++ values_from n r
unfolding list_octets values_from
values_from-list_octets [] n r f = ap (λ (k : ℕ). values_from k r) (zero-add n)
values_from-list_octets (v ∷ vs) n r f =
    let tail = list_octets vs ++ r in
    ap (λ (k : ℕ). values_from k ((value_octets v ++ list_octets vs) ++ r)) (suc-add (length vs) n)
    ∙ ap (λ (o : List ℕ). values_from (suc (length vs + n)) o) (append_assoc (value_octets v) (list_octets vs) r)
    ∙ ap (λ (o : List ℕ). uncomplement (little_number o) ∷ values_from (length vs + n) (drop 8 (value_octets v ++ tail))) (take-value_octets v tail)
    ∙ ap (λ (u : ℤ). u ∷ values_from (length vs + n) (drop 8 (value_octets v ++ tail))) (value-back v (f 0))
    ∙ ap (λ (o : List ℕ). v ∷ values_from (length vs + n) o) (drop-value_octets v tail)
    ∙ ap (λ (us : List ℤ). v ∷ us) (values_from-list_octets vs n r (λ i. f (suc i)))

pub values_in-list_octets : (vs : List ℤ) (r : List ℕ) → Fitting vs → values_in (list_octets vs ++ r) ≡ vs ++ values_in r
unfolding values_in
values_in-list_octets vs r f =
    let e : length (list_octets vs ++ r) / 8 ≡ length vs + length r / 8 = omega (arith, length-append (list_octets vs) r, length-list_octets vs) in
    ap (λ (k : ℕ). values_from k (list_octets vs ++ r)) e ∙ values_from-list_octets vs (length r / 8) r f
