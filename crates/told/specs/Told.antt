-- An answer as the host is told it: six numbers of 64 bits. The refusal's number, 0 where the call is accepted; its place; the
-- counts of values, bits and octets; and one that stays 0, kept for the count of missing bits.
use Rattle.std.specs.Prelude.{◌≡◌, List, [], ◌∷◌, ℕ}
use Rattle.answer.specs.Numbers.{Answer, Outcome, accepted, refused, outcome_of}

abbrev pub listed : Outcome → List ℕ
listed o = o.number ∷ o.place ∷ o.values ∷ o.bits ∷ o.octets ∷ 0 ∷ []

abbrev pub told : Answer → List ℕ
told answer = listed (outcome_of answer)

-- which numbers those are for each outcome. The proof is proofs/SixNumbers.antt
pub record SixNumbers : Type 0 where
  pub accepts : (v b o : ℕ) → told (accepted v b o) ≡ 0 ∷ 0 ∷ v ∷ b ∷ o ∷ 0 ∷ []
  pub refuses : (n p : ℕ) → told (refused n p) ≡ n ∷ p ∷ 0 ∷ 0 ∷ 0 ∷ 0 ∷ []
