-- What the steps of reading an item answer. No contract of a public call cites this file.
use Rattle.std.specs.Prelude.{ℕ, ◌+◌, Bool, cond, ◌&&◌, List, leb, pos, length, take, Result, Ok, Err, Some, None, ok_or}
use Rattle.bits.specs.Bits.{number_of}
use Rattle.bits.specs.Access.{place_at, Fetched}
use Rattle.bits.specs.declared.BitPlace.{BitPlace}
use Rattle.answer.specs.Numbers.{message_ends, bad_length, outside_limits, refusal_at}
use Rattle.answer.specs.declared.Refusal.{Refusal}
use Rattle.item.specs.Answers.{Item}

-- the number of the first k of the bits b, which stand at p, and the place after them; or that fewer than k are there
abbrev pub front_of : List Bool → ℕ → ℕ → Fetched
front_of b p k = cond (leb k (length b)) (Some (number_of (take k b), place_at (p + k))) None

-- the same, where the message must hold them
abbrev pub front_read : List Bool → ℕ → ℕ → Result (ℕ × BitPlace) Refusal
front_read b p k = ok_or (front_of b p k) (refusal_at message_ends p)

-- a length at p, with the place after it, in a form whose shortest is given
abbrev pub bounded_length : ℕ → ℕ → BitPlace → ℕ → ℕ → ℕ → Item
bounded_length p n next shortest least most =
    cond (leb shortest n) (cond (leb least n && leb n most) (Ok (pos n, next)) (Err (refusal_at outside_limits p))) (Err (refusal_at bad_length p))
