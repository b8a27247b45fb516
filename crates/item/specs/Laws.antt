-- What holds of every kind of item, stated once over the kind. The proofs are in proofs/CodeLaws.antt.
use Rattle.std.specs.Prelude.{Bool, true, ◌≡◌, List, ◌++◌, ℤ}
use Rattle.item.specs.Code.{Code, got, decode_item, allows, value_bits}

pub record ItemLaws (c : Code) : Type 0 where
  -- reading what was written gives the value back
  pub back : (v : ℤ) (r : List Bool) → allows c v ≡ true → decode_item c (value_bits c v ++ r) ≡ got v r
  -- what is read was written, by a value that the item allows
  pub written : (b : List Bool) (v : ℤ) (r : List Bool) → decode_item c b ≡ got v r → (allows c v ≡ true) × (b ≡ value_bits c v ++ r)
  -- by exactly one; and no value's bits begin another's
  pub one : (v w : ℤ) (r s : List Bool) → allows c v ≡ true → allows c w ≡ true → value_bits c v ++ r ≡ value_bits c w ++ s → (v ≡ w) × (r ≡ s)
