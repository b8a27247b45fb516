-- What is wrong with a table that breaks a rule (document 02, ticket 1): its size, or the first row in table order that breaks a rule
-- and the first part of it that does, by the part's number and the row's offset in octets.
-- A reader believes this file and rules' specs/Rules.antt. Nothing in them mentions the check.
use Rattle.std.specs.Prelude.{ℕ, ◌≤◌, ◌<◌, List, length}
use Rattle.answer.specs.Numbers.{table_size}
use Rattle.rules.specs.Rules.{Starts, Part, part_number, Keeps}

-- the row at o is the first that breaks a rule, and this part of it the first that does
pub record FirstBroken (t : List ℕ) (o : ℕ) (part : Part) : Type 0 where
  pub starts : Starts t o
  -- every row before it keeps the rule for every part
  pub rows_before : (p : ℕ) → Starts t p → p < o → (q : Part) → Keeps t p q
  -- it keeps the rule for every part that is tested before this one
  pub parts_before : (q : Part) → part_number q < part_number part → Keeps t o q
  -- and breaks that for this one
  pub breaks : Keeps t o part → ⊥

-- a table's refusal: a number and a place
pub data Fault (t : List ℕ) : ℕ → ℕ → Type 0 where
  too_small : length t < 4 → Fault t table_size 0
  too_large : 4096 < length t → Fault t table_size 0
  in_row : {o : ℕ} {part : Part} → 4 ≤ length t → length t ≤ 4096 → FirstBroken t o part → Fault t (part_number part) o
