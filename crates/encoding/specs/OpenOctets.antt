-- Open octets (document 02, ticket 2: "as kind 7 but with 'most' from 1 and lengths from 1"; a length of 0 is 6 on reading, 12 on
-- writing). The row at an offset is read as one of kind 8 and as one of kind 7: what is the same, and all that is not. The proof is
-- proofs/OpenOctets.antt.
use Rattle.std.specs.Prelude.{ℕ, zero, suc, ◌+◌, Bool, true, ◌&&◌, ◌≡◌, ◌↔◌, ◌≢◌, List, [], ◌∷◌, leb, ℤ, pos, negsuc}
use Rattle.octets.specs.Numbers.{u16}
use Rattle.answer.specs.Numbers.{outside_limits, wrong_value, refusal_at}
use Rattle.item.specs.Code.{Got, got, bad, length_within, decode_item}
use Rattle.row.specs.Rows.{row_of, row_length}
use Rattle.rules.specs.Rules.{known_kind, numbers_in_bounds, references, has_branch}
use Rattle.items.specs.Items.{Items, Allows, encoding_bits}
use Rattle.items.specs.Reading.{Reading, stuck, read_items}
use Rattle.items.specs.Writing.{Writing, halted, write_items}
use Rattle.encoding.specs.Rows.{row_items}

-- what is read, but where a length of 0 was got: 6 at its place
abbrev pub unless_empty_read : ℕ → Got ℤ → Reading → Reading
unless_empty_read at (got (pos zero) b) x = stuck (refusal_at outside_limits at)
unless_empty_read at (got (pos (suc n)) b) x = x
unless_empty_read at (got (negsuc n) b) x = x
unless_empty_read at (bad n) x = x

-- what is written, but where the list starts with a length of 0: 12 at its index
abbrev pub unless_empty_written : ℕ → List ℤ → Writing → Writing
unless_empty_written i [] x = x
unless_empty_written i (pos zero ∷ vs) x = halted (refusal_at wrong_value i)
unless_empty_written i (pos (suc n) ∷ vs) x = x
unless_empty_written i (negsuc n ∷ vs) x = x

-- the row at o of any octets; g for what rows that it refers to ask for, though it refers to none
pub record OpenOctets (t : List ℕ) (o : ℕ) (g : ℕ → Items) : Type 0 where
  -- in a table: known, and under each other rule as octets are, but that the most may not be 0
  pub known : known_kind (row_of t o 8) ≡ true
  pub long : row_length (row_of t o 8) ≡ row_length (row_of t o 7)
  pub refers : references (row_of t o 8) ≡ references (row_of t o 7)
  pub branch : has_branch (row_of t o 8) ≡ has_branch (row_of t o 7)
  pub in_bounds : numbers_in_bounds (row_of t o 8) ≡ leb 1 (u16 t (o + 4)) && numbers_in_bounds (row_of t o 7)
  -- the lists that octets allow, but those that start with 0; each with the same bits
  pub lists : (v : ℤ) (vs : List ℤ) → Allows (row_items g (row_of t o 8)) (v ∷ vs) ↔ ((v ≢ pos 0) × Allows (row_items g (row_of t o 7)) (v ∷ vs))
  pub bits : (vs : List ℤ) → encoding_bits (row_items g (row_of t o 8)) vs ≡ encoding_bits (row_items g (row_of t o 7)) vs
  -- read as octets are, from any bits, with any room, at any place, but where octets would get a length of 0
  pub reads : (b : List Bool) (room at : ℕ)
      → read_items (row_items g (row_of t o 8)) b room at ≡ unless_empty_read at (decode_item (length_within 0 (u16 t (o + 4))) b) (read_items (row_items g (row_of t o 7)) b room at)
  -- written as octets are, of any list, with any room, from any index on, but where a length of 0 comes first
  pub writes : (vs : List ℤ) (room i : ℕ)
      → write_items (row_items g (row_of t o 8)) vs room i ≡ unless_empty_written i vs (write_items (row_items g (row_of t o 7)) vs room i)
