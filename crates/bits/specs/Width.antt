-- That `width` is the smallest k with 2 ^ k above a number (document 01, "Bits and values"). The proof is proofs/Width.antt.
use Rattle.std.specs.Prelude.{ℕ, ◌≤◌, ◌<◌, ◌^◌, ◌≡◌}
use Rattle.bits.specs.Bits.{width}

pub record SmallestWidth : Type 0 where
  -- 2 ^ k is above the number
  pub above : (n : ℕ) → n < 2 ^ width n
  -- and no smaller k has that
  pub least : (n k : ℕ) → n < 2 ^ k → width n ≤ k
  -- so 0 takes no bits
  pub none : width 0 ≡ 0
