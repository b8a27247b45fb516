-- Document 01's example: its first message's values, its second's refusal and its count of frames have the lines given there.
use mathlib.Core.Path.{◌≡◌, refl}
use mathlib.Core.List.{[], ◌∷◌}
use lib.IntN.{pos}
use Rattle.answer.specs.Numbers.{refusal_at}
use Rattle.items.specs.Reading.{accept, refuse}
use Rattle.lines.specs.Text.{decimal_within, decimal, signed, listed, number_line, placed_line, accepted_line, refused_line, outcome_line, last_line}

-- ok 9: 0 0 3 0 0 32 2 72 105
first_line :
    outcome_line (accept (pos 0 ∷ pos 0 ∷ pos 3 ∷ pos 0 ∷ pos 0 ∷ pos 32 ∷ pos 2 ∷ pos 72 ∷ pos 105 ∷ []) 48)
    ≡ 111 ∷ 107 ∷ 32 ∷ 57 ∷ 58 ∷ 32 ∷ 48 ∷ 32 ∷ 48 ∷ 32 ∷ 51 ∷ 32 ∷ 48 ∷ 32 ∷ 48 ∷ 32 ∷ 51 ∷ 50 ∷ 32 ∷ 50 ∷ 32 ∷ 55 ∷ 50 ∷ 32 ∷ 49 ∷ 48 ∷ 53 ∷ 10 ∷ []
unfolding decimal_within decimal signed listed accepted_line
first_line = refl

-- no 2 at 8
second-line : outcome_line (refuse (refusal_at 2 8)) ≡ 110 ∷ 111 ∷ 32 ∷ 50 ∷ 32 ∷ 97 ∷ 116 ∷ 32 ∷ 56 ∷ 10 ∷ []
unfolding decimal_within decimal number_line placed_line refused_line
second-line = refl

-- frames 2
last_line_lem : last_line 2 ≡ 102 ∷ 114 ∷ 97 ∷ 109 ∷ 101 ∷ 115 ∷ 32 ∷ 50 ∷ 10 ∷ []
unfolding decimal_within decimal number_line
last_line_lem = refl
