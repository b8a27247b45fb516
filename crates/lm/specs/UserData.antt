-- Where the user data of an LM stands: it starts on an octet, and the message ends with it. The proof is proofs/UserData.antt.
use Rattle.std.specs.Prelude.{ℕ, ◌*◌, ◌/◌, Bool, ◌≡◌, List, [], ◌∷◌, length, drop}
use Rattle.lm.specs.Clause5.{Lm, in_order, n_header_bits, t_header_bits, length_bits, layout_bits}
use Rattle.lm.specs.Demand2.{LaidOut}

-- the bits before the user data
unfoldable pub bits_before : Lm → List Bool
bits_before l = in_order (n_header_bits l.network ∷ t_header_bits l.transport ∷ length_bits (length l.user_data) ∷ [])

-- the octet at which it starts
unfoldable pub user_data_start : Lm → ℕ
user_data_start l = length (bits_before l) / 8

pub record UserDataPlace : Type 0 where
  -- the bits before it are whole octets
  pub whole : (l : Lm) → 8 * user_data_start l ≡ length (bits_before l)
  -- it is the rest of the message
  pub rest : (s : List ℕ) (l : Lm) → LaidOut s l → drop (user_data_start l) s ≡ l.user_data
  -- and the message has no padding
  pub unpadded : (s : List ℕ) (l : Lm) → LaidOut s l → 8 * length s ≡ length (layout_bits l)
