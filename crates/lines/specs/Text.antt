-- The lines that the programs print (document 01, "The bench program"), as octets: decimal notation, the line of an answer, and the count of frames.
use Rattle.std.specs.Prelude.{ℕ, zero, suc, ◌+◌, ◌/◌, ◌%◌, cond, ◌≡◌, List, [], ◌∷◌, ◌++◌, ltb, ℤ, pos, negsuc, length, take, Ok, Err}
use Rattle.answer.specs.declared.Refusal.{Refusal}
use Rattle.answer.specs.Numbers.{Answer}
use Rattle.items.specs.Reading.{ReadOutcome, accept, refuse}

-- what putting a text into a slice from an index on leaves: the index after it, up to which the slice has what stood before it,
-- then the text
pub record Appended (before : List ℕ) (at : ℕ) (text after : List ℕ) (end : ℕ) : Type 0 where
  pub counted : end ≡ at + length text
  pub told : take end after ≡ take at before ++ text

-- a number in decimal, the digit 0 being octet 48, in at most f digits
unfoldable pub decimal_within : ℕ → ℕ → List ℕ
decimal_within zero n = []
decimal_within (suc f) n = cond (ltb n 10) ((48 + n) ∷ []) (decimal_within f (n / 10) ++ ((48 + n % 10) ∷ []))

-- a number in decimal, with no zero in front; n + 1 digits are always enough
unfoldable pub decimal : ℕ → List ℕ
decimal n = decimal_within (suc n) n

-- a line of words and a number
unfoldable pub number_line : List ℕ → ℕ → List ℕ
number_line words n = words ++ (decimal n ++ (10 ∷ []))

-- a value in decimal, a minus sign before one below 0
unfoldable pub signed : ℤ → List ℕ
signed (pos n) = decimal n
signed (negsuc n) = 45 ∷ decimal (suc n)

-- values in order, a space before each
unfoldable pub listed : List ℤ → List ℕ
listed [] = []
listed (v ∷ vs) = 32 ∷ (signed v ++ listed vs)

-- `ok N:` and the values
unfoldable pub accepted_line : ℕ → List ℤ → List ℕ
accepted_line n vs = (111 ∷ 107 ∷ 32 ∷ []) ++ (decimal n ++ ((58 ∷ []) ++ (listed vs ++ (10 ∷ []))))

-- a line of words, a number, and ` at ` with a place
unfoldable pub placed_line : List ℕ → ℕ → ℕ → List ℕ
placed_line words n place = words ++ (decimal n ++ number_line (32 ∷ 97 ∷ 116 ∷ 32 ∷ []) place)

-- `no R at P`
unfoldable pub refused_line : Refusal → List ℕ
refused_line r = placed_line (110 ∷ 111 ∷ 32 ∷ []) r.number r.place

-- the line of an answer, and of what the value slice then holds
abbrev pub answer_line : Answer → List ℤ → List ℕ
answer_line (Ok c) vs = accepted_line c.values (take c.values vs)
answer_line (Err r) vs = refused_line r

-- the line of an outcome of reading: `ok N: v v v` or `no R at P`
abbrev pub outcome_line : ReadOutcome → List ℕ
outcome_line (accept vs bits) = accepted_line (length vs) vs
outcome_line (refuse refusal) = refused_line refusal

-- `frames N`
abbrev pub last_line : ℕ → List ℕ
last_line n = number_line (102 ∷ 114 ∷ 97 ∷ 109 ∷ 101 ∷ 115 ∷ 32 ∷ []) n
