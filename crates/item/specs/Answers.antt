-- What the functions of this crate answer, from the definitions of Code.antt: for every message, place, value and output.
use Rattle.std.specs.Prelude.{ℕ, ◌+◌, ◌*◌, Bool, cond, List, map, leb, ℤ, length, drop, Result, Ok, Err}
use Rattle.octets.specs.Numbers.{u16s, there}
use Rattle.bits.specs.Bits.{unpack}
use Rattle.bits.specs.Access.{place_at, overwritten}
use Rattle.answer.specs.Numbers.{refusal_at}
use Rattle.answer.specs.declared.Reason.{Reason}
use Rattle.answer.specs.declared.Reason.TheVariants.{NoRoom, WrongValue}
use Rattle.answer.specs.declared.Refusal.{Refusal}
use Rattle.bits.specs.declared.BitPlace.{BitPlace}
use Rattle.item.specs.Code.{Code, Got, got, bad, decode_item, allows, value_bits}

-- what reading an item gives: its value and the place after it; or the refusal
abbrev pub Item : Type 0
Item = Result (ℤ × BitPlace) Refusal

-- what writing an item gives: the place after it; or the reason of the refusal, whose place, the index of its value, the caller knows
abbrev pub Put : Type 0
Put = Result BitPlace Reason

-- for each of m branches whose references stand in t from o on, whether it is there
abbrev pub branches_at : List ℕ → ℕ → ℕ → List Bool
branches_at t o m = map there (u16s t o 2 m)

-- a reading at p as the code answers it: the value and the place after its bits, or the refusal at p
abbrev pub item_of : Code → ℕ → Got ℤ → Item
item_of c p (got v r) = Ok (v, place_at (p + length (value_bits c v)))
item_of c p (bad n) = Err (refusal_at n p)

-- reading an item at p of a message
abbrev pub item_at : Code → List ℕ → ℕ → Item
item_at c m p = item_of c p (decode_item c (drop p (unpack m)))

-- writing a value at p of an output: the place after its bits, or the refusal's reason
abbrev pub put_at : Code → List ℕ → ℕ → ℤ → Put
put_at c out p v =
    cond (allows c v)
    (cond (leb (p + length (value_bits c v)) (8 * length out)) (Ok (place_at (p + length (value_bits c v)))) (Err NoRoom))
    (Err WrongValue)

-- and the output's bits after it
abbrev pub bits_after : Code → List Bool → ℕ → ℤ → List Bool
bits_after c b p v = cond (allows c v) (overwritten b p (value_bits c v)) b
