-- What "the answer followed by zeros" means (document 01, "Refusal numbers"), item by item: `filled` of Slices.antt is held to it,
-- for values and for octets. The proof is proofs/Filled.antt.
use Rattle.std.specs.Prelude.{ℕ, ◌*◌, ◌≤◌, ◌<◌, ◌≡◌, List, ℤ, pos, length, get_or, take}
use Rattle.items.specs.Reading.{ReadOutcome, read_values}
use Rattle.items.specs.Writing.{WriteOutcome, write_octets}
use Rattle.items.specs.Slices.{filled, values_after, packed_after, output_after}

pub record FilledUp : Type 1 where
  -- the list stands in front
  pub front : {A : Type 0} (z : A) (n : ℕ) (xs : List A) → take (length xs) (filled z n xs) ≡ xs
  -- every place after it holds zero, whatever would be read past the end
  pub rest : {A : Type 0} (z past : A) (n : ℕ) (xs : List A) (i : ℕ) → length xs ≤ i → i < n → get_or (filled z n xs) i past ≡ z
  -- and the slice is as long as it was
  pub whole : {A : Type 0} (z : A) (n : ℕ) (xs : List A) → length xs ≤ n → length (filled z n xs) ≡ n

-- so after a call every place behind the answer holds zero, to the slice's real end: of values, of octets (eight for each value,
-- and fewer than eight at the end too), of an output
pub record ZerosAfter : Type 0 where
  pub values : (n : ℕ) (x : ReadOutcome) (past : ℤ) (i : ℕ) → length (read_values x) ≤ i → i < n → get_or (values_after n x) i past ≡ pos 0
  pub packed : (n : ℕ) (x : ReadOutcome) (past i : ℕ) → 8 * length (read_values x) ≤ i → i < n → get_or (packed_after n x) i past ≡ 0
  pub output : (n : ℕ) (x : WriteOutcome) (past i : ℕ) → length (write_octets x) ≤ i → i < n → get_or (output_after n x) i past ≡ 0
