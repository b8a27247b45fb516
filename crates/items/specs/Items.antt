-- What a row asks for: item after item, each by its code; which come next may depend on the values before.
-- From it follow which lists are allowed and what their bits are (document 01, "Bits and values").
use Rattle.std.specs.Prelude.{ℕ, zero, suc, Bool, true, ◌≡◌, List, [], ◌∷◌, ◌++◌, ℤ}
use Rattle.item.specs.Code.{Code, allows, value_bits}

-- items in order (document 01: an item is one value's bits): no more, or one by its code and then what its value calls for
pub data Items : Type 0 where
  stop : Items
  ask : Code → (ℤ → Items) → Items

-- one after the other
infixr 30 ◌then◌
abbrev pub ◌then◌ : Items → Items → Items
stop then q = q
ask c k then q = ask c (λ v. k v then q)

-- one item
unfoldable pub one : Code → Items
one c = ask c (λ v. stop)

-- n times the same
unfoldable pub times : ℕ → Items → Items
times zero p = stop
times (suc n) p = p then times n p

-- a list is, first to last, what is asked for, with nothing missing and nothing left over
abbrev pub Allows : Items → List ℤ → Type 0
Allows stop [] = Unit {0}
Allows stop (v ∷ vs) = ⊥
Allows (ask c k) [] = ⊥
Allows (ask c k) (v ∷ vs) = (allows c v ≡ true) × Allows (k v) vs

-- the bits of its values in order
abbrev pub encoding_bits : Items → List ℤ → List Bool
encoding_bits stop vs = []
encoding_bits (ask c k) [] = []
encoding_bits (ask c k) (v ∷ vs) = value_bits c v ++ encoding_bits (k v) vs
