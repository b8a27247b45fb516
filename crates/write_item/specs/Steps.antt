-- What the steps of writing an item answer. No contract of a public call cites this file.
use Rattle.std.specs.Prelude.{ℕ, ◌+◌, ◌*◌, cond, List, leb, ℤ, pos, negsuc, length, Result, Ok, Err, Option, Some, None, ok_or}
use Rattle.bits.specs.Access.{place_at}
use Rattle.answer.specs.declared.Reason.{Reason}
use Rattle.answer.specs.declared.Reason.TheVariants.{NoRoom, WrongValue}
use Rattle.item.specs.Answers.{Put}

-- a distance above the lowest value, where it is from 0 to a span
abbrev pub within : ℕ → ℤ → Option ℕ
within span (pos n) = cond (leb n span) (Some n) None
within span (negsuc n) = None

-- the same, where the value must have it
abbrev pub distance_of : ℕ → ℤ → Result ℕ Reason
distance_of span d = ok_or (within span d) WrongValue

-- the place after k bits put at p, or that there is no room for them
abbrev pub put_of : List ℕ → ℕ → ℕ → Put
put_of out p k = cond (leb (p + k) (8 * length out)) (Ok (place_at (p + k))) (Err NoRoom)
