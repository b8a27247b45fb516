-- What the calls for the user data give of an LM, by the layout of ISO 16460:2021, clause 5; and that room plays no part in it.
-- The proof is proofs/Placed.antt.
use Rattle.std.specs.Prelude.{ℕ, ◌≤◌, ◌≡◌, ◌↔◌, ◌≢◌, List, length, Ok}
use Rattle.answer.specs.declared.Refusal.{Refusal}
use Rattle.answer.specs.Numbers.{no_room}
use Rattle.items.specs.Reading.{refuse}
use Rattle.encoding.specs.Demand3.{Message}
use Rattle.lm.specs.ByName.{read_lm_outcome}
use Rattle.lm.specs.Clause5.{Lm}
use Rattle.lm.specs.Demand2.{LaidOut}
use Rattle.lm.specs.UserData.{user_data_start}
use Rattle.userdata.specs.declared.Span.{Span}
use Rattle.userdata.specs.UserData.{enough, user_data_found, part_of}

-- a part that is the user data of an LM
pub record IsUserData (l : Lm) (span : Span) : Type 0 where
  pub start : span.start.0 ≡ user_data_start l
  pub length : span.length.0 ≡ length l.user_data

pub record UserDataPlaced : Type 0 where
  -- a part is given exactly when the message is the layout of an LM of version 3, and it is that LM's user data
  pub placed : (s : List ℕ) → Message s → (span : Span) → (user_data_found s ≡ Ok span) ↔ ((l : Lm) × LaidOut s l × IsUserData l span)
  -- and the octets of that part are it
  pub part : (s : List ℕ) → Message s → (l : Lm) → LaidOut s l → part_of s (user_data_found s) ≡ l.user_data
  -- any room from `enough` on gives the same outcome
  pub room : (s : List ℕ) (room : ℕ) → enough ≤ room → read_lm_outcome s room ≡ read_lm_outcome s enough
  -- and refusal 8 does not occur
  pub never : (s : List ℕ) (room : ℕ) → enough ≤ room → (refusal : Refusal) → read_lm_outcome s room ≡ refuse refusal → refusal.number ≢ no_room
