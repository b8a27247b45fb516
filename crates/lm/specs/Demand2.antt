-- Demand 2 for an LM: the built-in table of LM is the layout of ISO 16460:2021, clause 5, as specs/Clause5.antt has it from the
-- figures; so reading and writing an LM by name agree with that layout. The proof is proofs/Demand2.antt.
use Rattle.std.specs.Prelude.{ℕ, ◌≤◌, ◌≡◌, ◌↔◌, List, ℤ, length}
use Rattle.items.specs.Items.{Allows, encoding_bits}
use Rattle.encoding.specs.Rows.{asks}
use Rattle.items.specs.Encoding.{padded}
use Rattle.items.specs.Reading.{accept}
use Rattle.items.specs.Writing.{written}
use Rattle.encoding.specs.Demand3.{Message}
use Rattle.builtin.specs.Tables.{lm}
use Rattle.lm.specs.ByName.{read_lm_outcome, write_lm_outcome}
use Rattle.lm.specs.Clause5.{Lm, layout_bits, values_of, WellFormed, version_of}

-- an LM of version 3, its fields within their ranges, whose octets are these: its bits, then zero bits to the octet's end
pub record LaidOut (s : List ℕ) (l : Lm) : Type 0 where
  pub well_formed : WellFormed l
  pub version : version_of l ≡ 3
  pub octets : padded (layout_bits l) ≡ s

pub record Demand2Lm : Type 0 where
  -- the table allows the list of every well-formed LM
  pub allowed : (l : Lm) → WellFormed l → Allows (asks lm) (values_of l)
  -- and no other list
  pub only : (vs : List ℤ) → Allows (asks lm) vs → (l : Lm) × WellFormed l × (values_of l ≡ vs)
  -- with the bits of the layout
  pub laid : (l : Lm) → WellFormed l → encoding_bits (asks lm) (values_of l) ≡ layout_bits l
  -- so a message is accepted exactly when its octets are those of such an LM of version 3 whose list fits the slice; the list
  -- and the count of the bits are its own
  pub reads : (s : List ℕ) → Message s → (room : ℕ) (vs : List ℤ) (n : ℕ)
      → (read_lm_outcome s room ≡ accept vs n) ↔ ((l : Lm) × LaidOut s l × (values_of l ≡ vs) × (length vs ≤ room) × (length (layout_bits l) ≡ n))
  -- what is written for such an LM is its octets, wherever they fit
  pub writes : (s : List ℕ) → Message s → (l : Lm) → LaidOut s l → (cap : ℕ) → length s ≤ cap → write_lm_outcome (values_of l) cap ≡ written s
  -- and nothing else is written
  pub written_only : (vs : List ℤ) (cap : ℕ) (s : List ℕ) → write_lm_outcome vs cap ≡ written s → (l : Lm) × LaidOut s l × (values_of l ≡ vs)
