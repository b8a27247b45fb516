-- The numbers with which reading refuses (document 01, "Refusal numbers"), whatever items are asked for: also those of a state that
-- nobody checked (document 02, ticket 3). The proof is proofs/Numbered.antt.
use Rattle.std.specs.Prelude.{ℕ, Bool, true, ◌&&◌, ◌||◌, ◌≡◌, List, leb, eqb}
use Rattle.answer.specs.Numbers.{message_ends, not_padding, too_long, refusal_at}
use Rattle.items.specs.Items.{Items}
use Rattle.items.specs.Reading.{refuse, read_message}

-- a number of reading: 2 to 9, and 13. The others are a table's, 10 and 11 of an LM by name, and 12 of writing
unfoldable pub of_reading : ℕ → Bool
of_reading number = (leb message_ends number && leb number not_padding) || eqb number too_long

pub record ReadingNumbered : Type 0 where
  pub numbered : (p : Items) (s : List ℕ) (room number place : ℕ) → read_message p s room ≡ refuse (refusal_at number place) → of_reading number ≡ true
