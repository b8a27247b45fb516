-- How many bits a number and an index take (document 01, "Bits and values"): a number the smallest k with 2 ^ k above its span
-- (SmallestWidth, in bits' specs/Width.antt), an index the smallest k with 2 ^ k at least the count of branches, reserved ones
-- too. The proof is proofs/Widths.antt.
use Rattle.std.specs.Prelude.{ℕ, ◌≤◌, ◌^◌, Bool, ◌≡◌, List, ℤ, length}
use Rattle.bits.specs.Bits.{width}
use Rattle.item.specs.Code.{number, index, index_width, value_bits}

pub record ItemWidths : Type 0 where
  pub numbers : (low v : ℤ) (span : ℕ) → length (value_bits (number low span) v) ≡ width span
  pub indices : (branches : List Bool) (v : ℤ) → length (value_bits (index branches) v) ≡ index_width branches
  -- 2 ^ k is at least the count of branches
  pub enough : (branches : List Bool) → length branches ≤ 2 ^ index_width branches
  -- and no smaller k has that
  pub least : (branches : List Bool) (k : ℕ) → length branches ≤ 2 ^ k → index_width branches ≤ k
