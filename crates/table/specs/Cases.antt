-- Tables with the first rule that they break, or none: the corners of document 02's tickets 1 and 2. That the definitions give them is
-- `TablesGiven`; the proof is proofs/Cases.antt.
use Rattle.std.specs.Prelude.{ℕ, zero, suc, ◌+◌, ◌/◌, ◌%◌, ◌≡◌, List, [], ◌∷◌, map}
use Rattle.answer.specs.Numbers.{refusal_at}
use Rattle.table.specs.Verdict.{Verdict, passed, broken, verdict}

-- a case: the octets that are lent as a table, and the verdict
pub record TableCase : Type 0 where
  pub table : List ℕ
  pub gives : Verdict

-- n fixed runs from o on, each of one item: the first run of the row at r, every other of the run before it
unfoldable pub nested : ℕ → ℕ → ℕ → List ℕ
nested zero r o = []
nested (suc n) r o = 8 ∷ 0 ∷ 3 ∷ 0 ∷ 1 ∷ 0 ∷ r % 256 ∷ r / 256 ∷ nested n o (o + 8)

-- a variable number, and so many of them around it
unfoldable pub around : ℕ → List ℕ
around n = 4 ∷ 0 ∷ 2 ∷ 0 ∷ nested n 0 4

unfoldable pub table_cases : List TableCase
table_cases =
    -- three octets
    record { table = 0x04 ∷ 0x00 ∷ 0x02 ∷ []; gives = broken (refusal_at 1 0) }
    -- the row's end before its kind
    ∷ record { table = 0x06 ∷ 0x00 ∷ 0x2c ∷ 0x01 ∷ []; gives = broken (refusal_at 20 0) }
    -- three octets left for a row
    ∷ record { table = 0x04 ∷ 0x00 ∷ 0x02 ∷ 0x00 ∷ 0x04 ∷ 0x00 ∷ 0x02 ∷ []; gives = broken (refusal_at 20 4) }
    -- two octets left for a row, whose length they are
    ∷ record { table = 0x04 ∷ 0x00 ∷ 0x02 ∷ 0x00 ∷ 0x02 ∷ 0x00 ∷ []; gives = broken (refusal_at 20 4) }
    -- its kind before its length
    ∷ record { table = 0x00 ∷ 0x00 ∷ 0x2c ∷ 0x01 ∷ []; gives = broken (refusal_at 21 0) }
    -- a length of 3 is none
    ∷ record { table = 0x03 ∷ 0x00 ∷ 0x02 ∷ 0x00 ∷ []; gives = broken (refusal_at 22 0) }
    -- m 16,384, and the length that 6 + 4m would be in 16 bits
    ∷ record { table = 0x06 ∷ 0x00 ∷ 0x05 ∷ 0x00 ∷ 0x00 ∷ 0x40 ∷ []; gives = broken (refusal_at 22 0) }
    -- the right length for m, and no m
    ∷ record { table = 0x06 ∷ 0x00 ∷ 0x05 ∷ 0x00 ∷ 0x00 ∷ 0x00 ∷ []; gives = broken (refusal_at 23 0) }
    -- the second flag before the first reference
    ∷ record { table = 0x04 ∷ 0x00 ∷ 0x02 ∷ 0x00 ∷ 0x0e ∷ 0x00 ∷ 0x05 ∷ 0x00 ∷ 0x02 ∷ 0x00 ∷ 0x09 ∷ 0x00 ∷ 0x00 ∷ 0x00 ∷ 0x00 ∷ 0x00 ∷ 0x03 ∷ 0x00 ∷ []; gives = broken (refusal_at 23 4) }
    -- a reference two octets late
    ∷ record { table = 0x04 ∷ 0x00 ∷ 0x02 ∷ 0x00 ∷ 0x08 ∷ 0x00 ∷ 0x03 ∷ 0x00 ∷ 0x01 ∷ 0x00 ∷ 0x02 ∷ 0x00 ∷ []; gives = broken (refusal_at 24 4) }
    -- the first row, though the one after it breaks a rule for an earlier part
    ∷ record { table = 0x04 ∷ 0x00 ∷ 0x02 ∷ 0x00 ∷ 0x08 ∷ 0x00 ∷ 0x03 ∷ 0x00 ∷ 0x01 ∷ 0x00 ∷ 0x02 ∷ 0x00 ∷ 0x04 ∷ 0x00 ∷ 0x2c ∷ 0x01 ∷ []; gives = broken (refusal_at 24 4) }
    -- a reserved branch beside one that refers to no row
    ∷ record { table = 0x04 ∷ 0x00 ∷ 0x02 ∷ 0x00 ∷ 0x0a ∷ 0x00 ∷ 0x06 ∷ 0x00 ∷ 0x02 ∷ 0x00 ∷ 0xff ∷ 0xff ∷ 0x02 ∷ 0x00 ∷ []; gives = broken (refusal_at 24 4) }
    -- no branch
    ∷ record { table = 0x04 ∷ 0x00 ∷ 0x02 ∷ 0x00 ∷ 0x0a ∷ 0x00 ∷ 0x06 ∷ 0x00 ∷ 0x02 ∷ 0x00 ∷ 0xff ∷ 0xff ∷ 0xff ∷ 0xff ∷ []; gives = broken (refusal_at 25 4) }
    -- one branch
    ∷ record { table = 0x04 ∷ 0x00 ∷ 0x02 ∷ 0x00 ∷ 0x0a ∷ 0x00 ∷ 0x06 ∷ 0x00 ∷ 0x02 ∷ 0x00 ∷ 0xff ∷ 0xff ∷ 0x00 ∷ 0x00 ∷ []; gives = passed }
    -- open octets: a most of 0, where octets may have it; of 1, of 16,383 and of 16,384; and the kind after them
    ∷ record { table = 0x06 ∷ 0x00 ∷ 0x08 ∷ 0x00 ∷ 0x00 ∷ 0x00 ∷ []; gives = broken (refusal_at 23 0) }
    ∷ record { table = 0x06 ∷ 0x00 ∷ 0x07 ∷ 0x00 ∷ 0x00 ∷ 0x00 ∷ []; gives = passed }
    ∷ record { table = 0x06 ∷ 0x00 ∷ 0x08 ∷ 0x00 ∷ 0x01 ∷ 0x00 ∷ []; gives = passed }
    ∷ record { table = 0x06 ∷ 0x00 ∷ 0x08 ∷ 0x00 ∷ 0xff ∷ 0x3f ∷ []; gives = passed }
    ∷ record { table = 0x06 ∷ 0x00 ∷ 0x08 ∷ 0x00 ∷ 0x00 ∷ 0x40 ∷ []; gives = broken (refusal_at 23 0) }
    ∷ record { table = 0x06 ∷ 0x00 ∷ 0x09 ∷ 0x00 ∷ 0x01 ∷ 0x00 ∷ []; gives = broken (refusal_at 21 0) }
    -- 32 deep, and 33
    ∷ record { table = around 31; gives = passed }
    ∷ record { table = around 32; gives = broken (refusal_at 26 252) }
    ∷ []

-- the definitions give every case its verdict
pub record TablesGiven : Type 0 where
  pub verdicts : map (λ (c : TableCase). verdict c.table) table_cases ≡ map (λ (c : TableCase). c.gives) table_cases
