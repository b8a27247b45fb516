-- The bounds of Visits.antt are reached, where there is no room: by a table 32 rows deep, each of which is visited before the first
-- value. After a value the rows inside the outermost are visited again. The proof is proofs/Reached.antt.
use Rattle.std.specs.Prelude.{ℕ, ◌≡◌, List, [], ◌∷◌, ◌++◌, pos}
use Rattle.rules.specs.Rules.{Obeys}
use Rattle.table.specs.Cases.{nested}
use Rattle.visits.specs.Visits.{visited_in_reading, visited_in_writing}

-- a number of no bits, 30 runs of one around it, and a run of two of the last of them
unfoldable pub deep : List ℕ
deep = 12 ∷ 0 ∷ 1 ∷ 0 ∷ 0 ∷ 0 ∷ 0 ∷ 0 ∷ 0 ∷ 0 ∷ 0 ∷ 0 ∷ nested 30 0 12 ++ 8 ∷ 0 ∷ 3 ∷ 0 ∷ 2 ∷ 0 ∷ 244 ∷ 0 ∷ []

pub record Reached : Type 0 where
  pub obeys : Obeys deep
  -- the octet 00, with no room
  pub reading : visited_in_reading deep (0 ∷ []) 0 ≡ 32
  -- no value, into one octet
  pub writing : visited_in_writing deep [] 1 ≡ 32
  -- with room for a value, or of one value: 31 more
  pub reading_on : visited_in_reading deep (0 ∷ []) 1 ≡ 63
  pub writing_on : visited_in_writing deep (pos 0 ∷ []) 1 ≡ 63
