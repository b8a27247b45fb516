-- Document 01's marked cases, P1 to P3 and P7 to P10 of "Messages on the edge": twelve, as one list. Then the corners of document 02's
-- ticket 2: what may be empty, and what not. That the definitions give them is `Given`; the proof is proofs/Cases.antt.
use Rattle.std.specs.Prelude.{ℕ, ◌≡◌, List, [], ◌∷◌, map, ℤ, pos, negsuc}
use Rattle.answer.specs.Numbers.{refusal_at}
use Rattle.items.specs.Reading.{ReadOutcome, accept, refuse}
use Rattle.items.specs.Writing.{unwritten}
use Rattle.encoding.specs.Reading.{read_outcome}
use Rattle.builtin.specs.Tables.{sam, srm}
use Rattle.lm.specs.ByName.{read_lm_outcome, write_lm_outcome}

-- what is read: an LM by name, or a message under a lent table
pub data Asked : Type 0 where
  an_lm : List ℕ → Asked
  under : List ℕ → List ℕ → Asked

-- its outcome, by the definitions, with room for 1,024 values
abbrev pub outcome : Asked → ReadOutcome
outcome (an_lm s) = read_lm_outcome s 1024
outcome (under t s) = read_outcome t s 1024

-- a case: what is read, and the outcome that the papers give: the values and the bits that they take, or a refusal's number
-- and place
pub record Case : Type 0 where
  pub asked : Asked
  pub gives : ReadOutcome

-- a table of one number row, 0 to 200
abbrev pub up_to200 : List ℕ
up_to200 = 0x0c ∷ 0x00 ∷ 0x01 ∷ 0x00 ∷ 0x00 ∷ 0x00 ∷ 0x00 ∷ 0x00 ∷ 0xc8 ∷ 0x00 ∷ 0x00 ∷ 0x00 ∷ []

-- one of -128 to 127
abbrev pub signed_octet : List ℕ
signed_octet = 0x0c ∷ 0x00 ∷ 0x01 ∷ 0x00 ∷ 0x80 ∷ 0xff ∷ 0xff ∷ 0xff ∷ 0xff ∷ 0x00 ∷ 0x00 ∷ 0x00 ∷ []

-- one of 5 to 5
abbrev pub only_five : List ℕ
only_five = 0x0c ∷ 0x00 ∷ 0x01 ∷ 0x00 ∷ 0x05 ∷ 0x00 ∷ 0x00 ∷ 0x00 ∷ 0x00 ∷ 0x00 ∷ 0x00 ∷ 0x00 ∷ []

unfoldable pub cases : List Case
cases =
    -- P1
    record { asked = an_lm (0x03 ∷ 0x00 ∷ 0x20 ∷ 0x02 ∷ 0x48 ∷ 0x69 ∷ []); gives = accept (pos 0 ∷ pos 0 ∷ pos 3 ∷ pos 0 ∷ pos 0 ∷ pos 32 ∷ pos 2 ∷ pos 72 ∷ pos 105 ∷ []) 48 }
    -- P2
    ∷ record { asked = an_lm (0x23 ∷ 0x00 ∷ 0x00 ∷ 0x07 ∷ 0x02 ∷ 0x00 ∷ 0x01 ∷ 0x00 ∷ 0x02 ∷ 0x00 ∷ []); gives = accept (pos 2 ∷ pos 0 ∷ pos 3 ∷ pos 1 ∷ pos 3 ∷ pos 1 ∷ pos 0 ∷ pos 1 ∷ pos 2 ∷ pos 0 ∷ []) 80 }
    -- P3
    ∷ record { asked = an_lm (0x0b ∷ 0x01 ∷ 0x0f ∷ 0x01 ∷ 0xac ∷ 0x00 ∷ 0x00 ∷ 0x00 ∷ []); gives = accept (pos 0 ∷ pos 1 ∷ pos 3 ∷ pos 1 ∷ pos 15 ∷ pos 1 ∷ pos 172 ∷ pos 0 ∷ pos 0 ∷ pos 0 ∷ pos 0 ∷ []) 64 }
    -- P7
    ∷ record { asked = under up_to200 (0xc8 ∷ []); gives = accept (pos 200 ∷ []) 8 }
    ∷ record { asked = under up_to200 (0xc9 ∷ []); gives = refuse (refusal_at 3 0) }
    -- P8, -128 being negsuc 127
    ∷ record { asked = under signed_octet (0x00 ∷ []); gives = accept (negsuc 127 ∷ []) 8 }
    ∷ record { asked = under signed_octet (0xff ∷ []); gives = accept (pos 127 ∷ []) 8 }
    -- P9
    ∷ record { asked = under only_five (0x00 ∷ []); gives = accept (pos 5 ∷ []) 0 }
    ∷ record { asked = under only_five (0x01 ∷ []); gives = refuse (refusal_at 9 0) }
    ∷ record { asked = under only_five []; gives = refuse (refusal_at 2 0) }
    -- P10
    ∷ record { asked = an_lm (0x04 ∷ []); gives = refuse (refusal_at 10 5) }
    ∷ record { asked = an_lm (0x33 ∷ []); gives = refuse (refusal_at 11 0) }
    ∷ []

-- open octets, one row of them, most 2
abbrev pub one_or_two : List ℕ
one_or_two = 0x06 ∷ 0x00 ∷ 0x08 ∷ 0x00 ∷ 0x02 ∷ 0x00 ∷ []

unfoldable pub empty_cases : List Case
empty_cases =
    -- an element with no octets, in an LM, a SAM and an SRM; and a context with none, in an SRM
    record { asked = an_lm (0x0b ∷ 0x01 ∷ 0x04 ∷ 0x00 ∷ 0x00 ∷ 0x00 ∷ 0x00 ∷ []); gives = refuse (refusal_at 6 24) }
    ∷ record { asked = under sam (0x38 ∷ 0x00 ∷ 0x01 ∷ 0x11 ∷ 0x00 ∷ []); gives = refuse (refusal_at 6 32) }
    ∷ record { asked = under srm (0x38 ∷ 0x01 ∷ 0x04 ∷ 0x00 ∷ []); gives = refuse (refusal_at 6 24) }
    ∷ record { asked = under srm (0x32 ∷ 0x01 ∷ 0x00 ∷ 0x01 ∷ 0x00 ∷ 0xc0 ∷ 0x01 ∷ []); gives = refuse (refusal_at 6 32) }
    -- its length of 0 in two octets, which is no length
    ∷ record { asked = an_lm (0x0b ∷ 0x01 ∷ 0x04 ∷ 0x80 ∷ 0x00 ∷ 0x00 ∷ 0x00 ∷ 0x00 ∷ []); gives = refuse (refusal_at 5 24) }
    -- no user data, and a system service of no octets
    ∷ record { asked = an_lm (0x03 ∷ 0x00 ∷ 0x20 ∷ 0x00 ∷ []); gives = accept (pos 0 ∷ pos 0 ∷ pos 3 ∷ pos 0 ∷ pos 0 ∷ pos 32 ∷ pos 0 ∷ []) 32 }
    ∷ record { asked = under sam (0x34 ∷ 0x00 ∷ 0x01 ∷ 0x20 ∷ 0x0c ∷ 0x00 ∷ []); gives = accept (pos 3 ∷ pos 0 ∷ pos 1 ∷ pos 0 ∷ pos 0 ∷ pos 0 ∷ pos 0 ∷ pos 1 ∷ pos 32 ∷ pos 1 ∷ pos 1 ∷ pos 0 ∷ pos 0 ∷ pos 0 ∷ []) 48 }
    -- a row of its own: a length of 0, in one octet, in two, and cut; of 1, of 2, of 3
    ∷ record { asked = under one_or_two (0x00 ∷ []); gives = refuse (refusal_at 6 0) }
    ∷ record { asked = under one_or_two (0x80 ∷ 0x00 ∷ []); gives = refuse (refusal_at 5 0) }
    ∷ record { asked = under one_or_two (0x80 ∷ []); gives = refuse (refusal_at 2 0) }
    ∷ record { asked = under one_or_two (0x01 ∷ 0x00 ∷ []); gives = accept (pos 1 ∷ pos 0 ∷ []) 16 }
    ∷ record { asked = under one_or_two (0x02 ∷ 0x48 ∷ 0x69 ∷ []); gives = accept (pos 2 ∷ pos 72 ∷ pos 105 ∷ []) 24 }
    ∷ record { asked = under one_or_two (0x03 ∷ 0x48 ∷ 0x69 ∷ 0x21 ∷ []); gives = refuse (refusal_at 6 0) }
    ∷ []

-- an LM's list with an element 4 that has no octets
abbrev pub empty_element : List ℤ
empty_element = pos 0 ∷ pos 1 ∷ pos 3 ∷ pos 1 ∷ pos 4 ∷ pos 0 ∷ pos 0 ∷ pos 0 ∷ pos 0 ∷ pos 0 ∷ []

-- the definitions give every case of a list its outcome
abbrev pub Hold : List Case → Type 0
Hold cs = map (λ (c : Case). outcome c.asked) cs ≡ map (λ (c : Case). c.gives) cs

-- both lists hold; and the list of the empty element is not written, for its length
pub record Given : Type 0 where
  pub outcomes : Hold cases
  pub empty_outcomes : Hold empty_cases
  pub empty_unwritten : write_lm_outcome empty_element 1024 ≡ unwritten (refusal_at 12 5)
