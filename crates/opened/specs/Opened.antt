-- What an opened message holds, what opening answers, and what taking k bits at a place gives, for every message, place and k
-- (document 01, "An opened message keeps the lent octets and a bit place together").
use Rattle.std.specs.Prelude.{ℕ, ◌+◌, ◌-◌, ◌*◌, cond, List, [], leb, ltb, length, take, drop, Result, Ok, Err}
use Rattle.bits.specs.Access.{most_octets}
use Rattle.bits.specs.Bits.{number_of, unpack}
use Rattle.answer.specs.Numbers.{Answer, refusal_at, accepted, refused, too_long, outside_limits, message_ends}
use Rattle.bits.specs.declared.BitPlace.{BitPlace}
use Rattle.answer.specs.declared.Refusal.{Refusal}

-- the octets that opening holds: none above 65,535
abbrev pub kept : List ℕ → List ℕ
kept m = cond (ltb most_octets (length m)) [] m

-- what opening answers: nothing to count, or 13 at place 0
abbrev pub opening : List ℕ → Answer
opening m = cond (ltb most_octets (length m)) (refused too_long 0) (accepted 0 0 0)

-- what taking gives: the bits' number and the place after them; or the refusal
abbrev pub Taken : Type 0
Taken = Result (ℕ × BitPlace) Refusal

-- the case for each outcome of taking: the bits' number and the place after them; a refusal's number and the place that stays
abbrev pub took : ℕ → ℕ → Taken
took n next = Ok (n, record { 0 = next })

abbrev pub refused_at : ℕ → ℕ → Taken
refused_at number p = Err (refusal_at number p)

-- k bits taken at p: above 32 is 6, then too few bits is 2, which are those from p on; of no bits none is missing, anywhere
abbrev pub taken : List ℕ → ℕ → ℕ → Taken
taken m p k =
    cond (ltb 32 k) (refused_at outside_limits p)
    (cond (leb k (8 * length m - p)) (took (number_of (take k (drop p (unpack m)))) (p + k)) (refused_at message_ends p))

-- the place after: k on, or where it was
abbrev pub place_of : Taken → ℕ
place_of (Ok (n, next)) = next.0
place_of (Err r) = r.place
