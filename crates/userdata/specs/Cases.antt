-- Document 01's marked LMs, P1 to P3 and P10 of "Messages on the edge", and those of document 02's ticket 2: where the user data of each
-- stands, by the definitions. The proof is proofs/Cases.antt.
use Rattle.std.specs.Prelude.{ℕ, ◌≡◌, List, [], ◌∷◌}
use Rattle.userdata.specs.UserData.{found_at, not_found, user_data_found, part_of}

abbrev pub p1 : List ℕ
p1 = 0x03 ∷ 0x00 ∷ 0x20 ∷ 0x02 ∷ 0x48 ∷ 0x69 ∷ []

pub record UserDataCases : Type 0 where
  pub p1-found : user_data_found p1 ≡ found_at 4 2
  pub p1_part : part_of p1 (user_data_found p1) ≡ 0x48 ∷ 0x69 ∷ []
  pub p2_found : user_data_found (0x23 ∷ 0x00 ∷ 0x00 ∷ 0x07 ∷ 0x02 ∷ 0x00 ∷ 0x01 ∷ 0x00 ∷ 0x02 ∷ 0x00 ∷ []) ≡ found_at 10 0
  pub p3_found : user_data_found (0x0b ∷ 0x01 ∷ 0x0f ∷ 0x01 ∷ 0xac ∷ 0x00 ∷ 0x00 ∷ 0x00 ∷ []) ≡ found_at 8 0
  pub none_found : user_data_found (0x03 ∷ 0x00 ∷ 0x20 ∷ 0x00 ∷ []) ≡ found_at 4 0
  pub element-found : user_data_found (0x0b ∷ 0x01 ∷ 0x04 ∷ 0x00 ∷ 0x00 ∷ 0x00 ∷ 0x00 ∷ []) ≡ not_found 6 24
  pub form-found : user_data_found (0x0b ∷ 0x01 ∷ 0x04 ∷ 0x80 ∷ 0x00 ∷ 0x00 ∷ 0x00 ∷ 0x00 ∷ []) ≡ not_found 5 24
  pub version-found : user_data_found (0x04 ∷ []) ≡ not_found 10 5
  pub subtype-found : user_data_found (0x33 ∷ []) ≡ not_found 11 0
  pub empty-found : user_data_found [] ≡ not_found 2 0
  pub empty_part : part_of [] (user_data_found []) ≡ []
