-- What holds of the code of every item that rows ask for, whatever the values before it are: said once over the property.
-- Assumes nothing.
use Prim.Native.Nat.{ℕ, zero, suc, ◌<◌}
use mathlib.Core.Bool.{Bool, true, false, cond}
use mathlib.Core.Path.{◌≡◌, refl, sym, subst}
use mathlib.Core.List.{List, [], ◌∷◌, map}
use native.Mathlib.Omega.{arith}
use lib.Dec.{eqb, ltb}
use lib.IntN.{ℤ, pos}
use lib.ListN.{get_or}
use borrow.Author.Tests.{ltb-true}
use Rattle.octets.specs.Numbers.{there}
use Rattle.item.specs.Code.{Code, number, variable, length_within, index, natural}
use Rattle.row.specs.Offsets.{earlier}
use Rattle.row.specs.Rows.{Row, Number, Variable, FixedRun, CountedRun, Record, Choice, Octets, Unknown, row_at}
use Rattle.rules.specs.Rules.{All}
use Rattle.items.specs.Items.{Items, stop, ask, ◌then◌, one, times}
use Rattle.encoding.specs.Rows.{presence, fields, row_items, items}
use Rattle.encoding.proofs.RowItems.{items-row}

-- every item's code has a property
abbrev pub Every : (Code → Type 0) → Items → Type 0
Every P stop = Unit {0}
Every P (ask c k) = P c × ((v : ℤ) → Every P (k v))

-- the codes that a row asks for itself
abbrev pub Codes : (Code → Type 0) → Row → Type 0
Codes P (Number low span) = P (number low span)
Codes P Variable = P variable
Codes P (FixedRun count r) = Unit {0}
Codes P (CountedRun most r) = P (length_within 0 most)
Codes P (Record rs flags) = P (number (pos 0) 1)
Codes P (Choice rs) = P (index (map there rs))
Codes P (Octets least most) = P (length_within least most) × P (number (pos 0) 255)
Codes P Unknown = Unit {0}

-- the rows that it refers to, g giving what each asks for; of a choice, what stands for a reserved branch too
abbrev pub Below : (Items → Type 0) → (ℕ → Items) → Row → Type 0
Below Q g (Number low span) = Unit {0}
Below Q g Variable = Unit {0}
Below Q g (FixedRun count r) = Q (g r)
Below Q g (CountedRun most r) = Q (g r)
Below Q g (Record rs flags) = All (λ r. Q (g r)) rs
Below Q g (Choice rs) = All (λ r. Q (g r)) rs × Q (g 65535)
Below Q g (Octets least most) = Unit {0}
Below Q g Unknown = Unit {0}

all_of : {Q : ℕ → Type 0} → ((r : ℕ) → Q r) → (rs : List ℕ) → All Q rs
all_of h [] = tt
all_of h (r ∷ rs) = (h r, all_of h rs)

all-below : (Q : Items → Type 0) (g : ℕ → Items) → ((r : ℕ) → Q (g r)) → (row : Row) → Below Q g row
all-below Q g h (Number low span) = tt
all-below Q g h Variable = tt
all-below Q g h (FixedRun count r) = h r
all-below Q g h (CountedRun most r) = h r
all-below Q g h (Record rs flags) = all_of h rs
all-below Q g h (Choice rs) = (all_of h rs, h 65535)
all-below Q g h (Octets least most) = tt
all-below Q g h Unknown = tt

module _ (P : Code → Type 0) where
  every-then : (p q : Items) → Every P p → Every P q → Every P (p then q)
  every-then stop q h k = k
  every-then (ask c f) q h k = (h.0, λ v. every-then (f v) q (h.1 v) k)

  every-times : (n : ℕ) (p : Items) → Every P p → Every P (times n p)
  unfolding times
  every-times zero p h = tt
  every-times (suc n) p h = every-then p (times n p) h (every-times n p h)

  every-presence : P (number (pos 0) 1) → (flags : List ℕ) (k : List Bool → Items) → ((ps : List Bool) → Every P (k ps)) → Every P (presence flags k)
  unfolding presence
  every-presence b [] k h = h []
  every-presence b (zero ∷ flags) k h = every-presence b flags (λ ps. k (true ∷ ps)) (λ ps. h (true ∷ ps))
  every-presence b (suc f ∷ flags) k h = (b, λ v. every-presence b flags _ (λ ps. h (eqb (natural v) 1 ∷ ps)))

  module _ (g : ℕ → Items) where
    every-fields : (rs : List ℕ) → All (λ r. Every P (g r)) rs → (ps : List Bool) → Every P (fields g rs ps)
    unfolding fields
    every-fields [] h ps = tt
    every-fields (r ∷ rs) h [] = tt
    every-fields (r ∷ rs) h (true ∷ ps) = every-then (g r) (fields g rs ps) h.0 (every-fields rs h.1 ps)
    every-fields (r ∷ rs) h (false ∷ ps) = every-fields rs h.1 ps

    every-branch : (rs : List ℕ) → All (λ r. Every P (g r)) rs → Every P (g 65535) → (n : ℕ) → Every P (g (get_or rs n 65535))
    every-branch [] h z n = z
    every-branch (r ∷ rs) h z zero = h.0
    every-branch (r ∷ rs) h z (suc n) = every-branch rs h.1 z n

    -- what a row asks for has it, if its own codes have it and the rows that it refers to
    pub every-row : (row : Row) → Codes P row → Below (Every P) g row → Every P (row_items g row)
    unfolding row_items one
    every-row (Number low span) c h = (c, λ v. tt)
    every-row Variable c h = (c, λ v. tt)
    every-row (FixedRun count r) c h = every-times count (g r) h
    every-row (CountedRun most r) c h = (c, λ v. every-times (natural v) (g r) h)
    every-row (Record rs flags) c h = every-presence c flags (fields g rs) (every-fields rs h)
    every-row (Choice rs) c h = (c, λ v. every-branch rs h.0 h.1 (natural v))
    every-row (Octets least most) c h = (c.0, λ v. every-times (natural v) _ (c.1, λ w. tt))
    every-row Unknown c h = tt

  module _ (t : List ℕ) (codes : (o : ℕ) → Codes P (row_at t o)) where
    every_before : (f o : ℕ) → o < suc f → ((r : ℕ) → r < f → Every P (items t r)) → (r : ℕ) → Every P (earlier stop o (items t) r)
    unfolding earlier
    every_before f o h ih r = go (ltb r o) refl
      where
        go : (b : Bool) → ltb r o ≡ b → Every P (cond b (items t r) stop)
        go true e = ih r (omega (arith, ltb-true r o e))
        go false e = tt

    every_up_to : (f o : ℕ) → o < f → Every P (items t o)
    every_up_to zero o h = absurd (omega arith)
    every_up_to (suc f) o h =
        let g = earlier stop o (items t) in
        subst (Every P) (sym (items-row t o))
        (every-row g (row_at t o) (codes o) (all-below (Every P) g (every_before f o h (every_up_to f)) (row_at t o)))

    -- all that a table asks for has it, if the codes of every row do
    pub every_items : (o : ℕ) → Every P (items t o)
    every_items o = every_up_to (suc o) o (omega arith)
