-- Reading and writing under a table that breaks a rule (document 02, ticket 1: messages under a refused table get the same number and
-- place): its fault comes before all others, whatever is read or written and whatever is lent; and the numbers of a table are never
-- those of a message or a list. The proof is proofs/UnderTable.antt.
use Rattle.std.specs.Prelude.{ℕ, ◌≡◌, ◌↔◌, List, ℤ, pos, replicate}
use Rattle.answer.specs.Numbers.{refused, table_size}
use Rattle.rules.specs.Rules.{Part, part_number}
use Rattle.table.specs.Faults.{Fault}
use Rattle.encoding.specs.Reading.{read_outcome}
use Rattle.encoding.specs.Writing.{write_outcome}
use Rattle.items.specs.Slices.{values_after, packed_after, output_after}
use Rattle.encoding.specs.Calls.{read_call, write_call}

-- a number that speaks of a table: 1, and 20 to 26
pub data OfTable : ℕ → Type 0 where
  of_size : OfTable table_size
  of_part : (part : Part) → OfTable (part_number part)

pub record UnderTable (t : List ℕ) : Type 0 where
  -- such a number is answered exactly where it is the table's fault, at that place
  pub reading : (s : List ℕ) (room n p : ℕ) → OfTable n → (read_call t s room ≡ refused n p) ↔ Fault t n p
  pub writing : (vs : List ℤ) (cap n p : ℕ) → OfTable n → (write_call t vs cap ≡ refused n p) ↔ Fault t n p
  -- and a fault has no other number
  pub numbers : (n p : ℕ) → Fault t n p → OfTable n
  -- the lent slice is then all zeros
  pub values : (n p : ℕ) → Fault t n p → (s : List ℕ) (room : ℕ) → values_after room (read_outcome t s room) ≡ replicate room (pos 0)
  pub octets : (n p : ℕ) → Fault t n p → (s : List ℕ) (size room : ℕ) → packed_after size (read_outcome t s room) ≡ replicate size 0
  pub output : (n p : ℕ) → Fault t n p → (vs : List ℤ) (cap : ℕ) → output_after cap (write_outcome t vs cap) ≡ replicate cap 0
