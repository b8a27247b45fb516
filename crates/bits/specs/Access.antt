-- What fetching and storing k bits at a place mean, for every message, place and width.
use Rattle.std.specs.Prelude.{ℕ, ◌+◌, ◌*◌, Option, Some, None, Bool, cond, List, ◌++◌, leb, length, take, drop}
use Rattle.bits.specs.Bits.{number_of, unpack}
use Rattle.bits.specs.declared.BitPlace.{BitPlace}

-- the most octets that a message has, and that an output counts as (document 01): a longer message is refused
abbrev pub most_octets : ℕ
most_octets = 65535

-- what fetching gives: a number and the place after its bits; or that the message ends before
abbrev pub Fetched : Type 0
Fetched = Option (ℕ × BitPlace)

-- what storing gives: the place after the bits; or that the output ends before
abbrev pub Stored : Type 0
Stored = Option BitPlace

abbrev pub place_at : ℕ → BitPlace
place_at p = record { 0 = p }

-- the number that the k bits from p spell, and the place after them; or that fewer than k are there
abbrev pub fetched : List ℕ → ℕ → ℕ → Fetched
fetched m p k = cond (leb (p + k) (8 * length m)) (Some (number_of (take k (drop p (unpack m))), place_at (p + k))) None

-- the place after k bits stored from p on; or that there is no room for them
abbrev pub stored : List ℕ → ℕ → ℕ → Stored
stored m p k = cond (leb (p + k) (8 * length m)) (Some (place_at (p + k))) None

-- bits with x in the place of those from p on; as they were where x would run past the end
abbrev pub overwritten : List Bool → ℕ → List Bool → List Bool
overwritten b p x = cond (leb (p + length x) (length b)) (take p b ++ (x ++ drop (p + length x) b)) b
