-- Recursion over the offsets of a table: what a row means, from what earlier rows mean. It computes. What it
-- comes to is stated by Depths (rules' specs/Depths.antt) and by Demand2's `row` (encoding's specs/Demand2.antt).
use Rattle.std.specs.Prelude.{ℕ, zero, suc, cond, ltb}

-- g below o, and z from o on
unfoldable pub earlier : {A : Type 0} → A → ℕ → (ℕ → A) → ℕ → A
earlier z o g r = cond (ltb r o) (g r) z

module _ {A : Type 0} (z : A) (F : ℕ → (ℕ → A) → A) where
  unfoldable pub up_to : ℕ → ℕ → A
  up_to zero o = z
  up_to (suc f) o = F o (earlier z o (up_to f))

  -- the meaning at o, by F from the meanings below o
  unfoldable pub by_offset : ℕ → A
  by_offset o = up_to (suc o) o
