-- The rows of a table (document 01, "Row layout", and document 02, ticket 2): what stands at an offset.
use Rattle.std.specs.Prelude.{ℕ, ◌+◌, ◌*◌, Bool, cond, ◌&&◌, List, leb, eqb, ℤ, length}
use Rattle.octets.specs.Numbers.{u16, u32, signed, u16s}

-- a row (document 01's term), by its kind. The least and the most of octets' length belong to the row: the least goes by the kind, 0
-- of octets and 1 of open octets (document 02, ticket 2), and the table gives the most
pub data Row : Type 0 where
  Number : ℤ → ℕ → Row  -- kind 1: low, span
  Variable : Row  -- kind 2
  FixedRun : ℕ → ℕ → Row  -- kind 3: count, reference
  CountedRun : ℕ → ℕ → Row  -- kind 4: most, reference
  Record : List ℕ → List ℕ → Row  -- kind 5: the fields' references and flags
  Choice : List ℕ → Row  -- kind 6: the branches' references
  Octets : ℕ → ℕ → Row  -- kinds 7 and 8: least, most
  Unknown : Row  -- any other kind

-- the row at o, read as being of a kind
unfoldable pub row_of : List ℕ → ℕ → ℕ → Row
row_of t o kind =
    cond (eqb kind 1) (Number (signed (u32 t (o + 4))) (u32 t (o + 8)))
    (cond (eqb kind 2) Variable
    (cond (eqb kind 3) (FixedRun (u16 t (o + 4)) (u16 t (o + 6)))
    (cond (eqb kind 4) (CountedRun (u16 t (o + 4)) (u16 t (o + 6)))
    (cond (eqb kind 5) (Record (u16s t (o + 6) 4 (u16 t (o + 4))) (u16s t (o + 8) 4 (u16 t (o + 4))))
    (cond (eqb kind 6) (Choice (u16s t (o + 6) 2 (u16 t (o + 4))))
    (cond (eqb kind 7) (Octets 0 (u16 t (o + 4)))
    (cond (eqb kind 8) (Octets 1 (u16 t (o + 4)))
    Unknown)))))))

-- the row at o
unfoldable pub row_at : List ℕ → ℕ → Row
row_at t o = row_of t o (u16 t (o + 2))

-- the length that a row of its kind has
unfoldable pub row_length : Row → ℕ
row_length (Number low span) = 12
row_length Variable = 4
row_length (FixedRun count r) = 8
row_length (CountedRun most r) = 8
row_length (Record rs fs) = 6 + 4 * length rs
row_length (Choice rs) = 6 + 2 * length rs
row_length (Octets least most) = 6
row_length Unknown = 0

-- whether a number is in bounds
unfoldable pub within : ℕ → ℕ → ℕ → Bool
within least most n = leb least n && leb n most
