-- A list and zeros after it.
-- Assumes nothing.
use Prim.Native.Nat.{ℕ, ◌+◌, ◌-◌, ◌≤◌, ◌<◌}
use mathlib.Core.Path.{◌≡◌, ap, ◌∙◌}
use mathlib.Core.List.{List}
use native.Mathlib.Omega.{arith}
use lib.IntN.{pos}
use lib.ListN.{length, get_or, replicate, length-append, length-replicate, get_or-replicate}
use lib.Seq.{take-append_seam, get_or-append-add}
use Rattle.items.specs.Slices.{filled}
use Rattle.items.specs.Filled.{FilledUp, ZerosAfter}
use Rattle.items.specs.Reading.{read_values}
use Rattle.items.specs.Writing.{write_octets}
use Rattle.values.specs.Values.{list_octets}
use Rattle.values.proofs.Stores.{length-list_octets}

module _ {A : Type 0} (z past : A) (n : ℕ) (xs : List A) where
  zero_at : (i : ℕ) → length xs ≤ i → i < n → get_or (filled z n xs) i past ≡ z
  zero_at i h l =
      let e : i ≡ length xs + (i - length xs) = omega arith in
      ap (λ (k : ℕ). get_or (filled z n xs) k past) e
      ∙ get_or-append-add xs (replicate (n - length xs) z) (i - length xs) past
      ∙ get_or-replicate (n - length xs) (i - length xs) z past (omega arith)

pub filled_up : FilledUp
filled_up = record {
  front = λ z n xs. take-append_seam xs (replicate (n - length xs) z);
  rest = zero_at;
  whole = λ z n xs h. rw (length-append, length-replicate) (omega arith);
}

pub zeros_after : ZerosAfter
zeros_after = record {
  values = λ n x past. zero_at (pos 0) past n (read_values x);
  packed = λ n x past i h. zero_at 0 past n (list_octets (read_values x)) i (rw (length-list_octets (read_values x)) (omega arith));
  output = λ n x past. zero_at 0 past n (write_octets x);
}
