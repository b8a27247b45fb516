-- What reading and writing the rows of a table both speak of: a row that is no choice, a number row, the rows that a row refers to, and
-- what is left of a record once its presence bits are known: the fields that a mask marks.
use Rattle.std.specs.Prelude.{ℕ, ◌+◌, ◌<◌, Bool, true, false, List, ◌≡◌, length, get_or}
use Rattle.octets.specs.Numbers.{u16, u16s, u32, signed}
use Rattle.bits.specs.Bits.{bits_of}
use Rattle.row.specs.Rows.{row_at}
use Rattle.rules.specs.Rules.{references}
use Rattle.item.specs.Code.{number}
use Rattle.items.specs.Items.{Items, stop, one}
use Rattle.encoding.specs.Rows.{fields}

-- the row at o is no choice
abbrev pub NoChoice : List ℕ → ℕ → Type 0
NoChoice t o = u16 t (o + 2) ≡ 6 → ⊥

-- what the number row at o asks for
abbrev pub number_row : List ℕ → ℕ → Items
number_row t o = one (number (signed (u32 t (o + 4))) (u32 t (o + 8)))

-- the fields of the record at o, by their marks, with g for the rows that it refers to
abbrev pub fields_of : (ℕ → Items) → List ℕ → ℕ → List Bool → Items
fields_of g t o = fields g (u16s t (o + 6) 4 (u16 t (o + 4)))

-- those that a mask marks as present, the first field on top
unfoldable pub marked_fields : (ℕ → Items) → List ℕ → ℕ → ℕ → Items
marked_fields g t o mask = fields_of g t o (bits_of (u16 t (o + 4)) mask)

-- the row at r is one that the row at o refers to
abbrev pub Refers : List ℕ → ℕ → ℕ → Type 0
Refers t o r = (i : ℕ) × (i < length (references (row_at t o))) × (r ≡ get_or (references (row_at t o)) i 0)

-- a field, where it is present
abbrev pub field_if : Bool → Items → Items
field_if true p = p
field_if false p = stop
