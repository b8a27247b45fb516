-- Demand 2 under any table that obeys the rules: what is read and written are the lists that the table allows and their
-- encoding, and nothing else. The proof is proofs/Demand2.antt.
use Rattle.std.specs.Prelude.{ℕ, ◌≤◌, min, ◌≡◌, ◌↔◌, List, ℤ, length}
use Rattle.bits.specs.Access.{most_octets}
use Rattle.row.specs.Rows.{row_at}
use Rattle.rules.specs.Rules.{Starts, Obeys}
use Rattle.table.specs.Root.{root, IsRoot}
use Rattle.items.specs.Items.{Allows, encoding_bits}
use Rattle.encoding.specs.Rows.{row_items, items, asks}
use Rattle.items.specs.Encoding.{encoding}
use Rattle.encoding.specs.Reading.{read_outcome}
use Rattle.items.specs.Reading.{accept}
use Rattle.encoding.specs.Writing.{write_outcome}
use Rattle.items.specs.Writing.{written}
use Rattle.encoding.specs.Demand3.{Message, Stands}

pub record Demand2 (t : List ℕ) : Type 0 where
  -- every row asks for what its kind says, of the rows that it refers to
  pub row : Obeys t → (o : ℕ) → Starts t o → items t o ≡ row_items (items t) (row_at t o)
  -- there is a last row; and the table asks for what its last row does, wherever that stands
  pub last : Obeys t → IsRoot t (root t)
  pub whole : Obeys t → (o : ℕ) → IsRoot t o → asks t ≡ items t o
  -- a list and a count of bits are read exactly where the list stands for the octets and takes so many bits
  pub reads : Obeys t → (s : List ℕ) → Message s → (room : ℕ) (vs : List ℤ) (n : ℕ)
      → (read_outcome t s room ≡ accept vs n) ↔ (Stands (asks t) s room vs × (length (encoding_bits (asks t) vs) ≡ n))
  -- octets are written exactly where the list is allowed, they are its encoding, and they fit the output, which counts as
  -- 65,535 octets at most
  pub writes : Obeys t → (vs : List ℤ) (cap : ℕ) (s : List ℕ)
      → (write_outcome t vs cap ≡ written s) ↔ (Allows (asks t) vs × (encoding (asks t) vs ≡ s) × (length s ≤ min cap most_octets))
