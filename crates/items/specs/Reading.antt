-- The outcome of reading items (document 01, "Refusal numbers"): for every message and every length of value slice, the values
-- with the bits that they take, or the refusal's number and place. No table is known here.
use Rattle.std.specs.Prelude.{ℕ, zero, suc, ◌+◌, Bool, true, false, cond, ◌&&◌, List, [], ◌∷◌, ◌++◌, leb, eqb, ℤ, length, Err}
use Rattle.bits.specs.Bits.{unpack}
use Rattle.bits.specs.Access.{most_octets}
use Rattle.answer.specs.Numbers.{message_ends, no_room, not_padding, too_long, refusal_at, accepted, Answer}
use Rattle.answer.specs.declared.Refusal.{Refusal}
use Rattle.item.specs.Code.{Got, got, bad, value_bits, decode_item}
use Rattle.items.specs.Items.{Items, stop, ask}
use Rattle.items.specs.Encoding.{size}

-- ── items in order ──

-- the values read, the place after them and the bits there; or a refusal
pub data Reading : Type 0 where
  done : List ℤ → ℕ → List Bool → Reading
  stuck : Refusal → Reading

abbrev pub prepend : List ℤ → Reading → Reading
prepend us (done vs at b) = done (us ++ vs) at b
prepend us (stuck refusal) = stuck refusal

-- an item at a place: its own refusal, then 8 where there is no place for its value; then what follows it
abbrev pub read_one : ℕ → Got ℤ → ℕ → (ℤ → List Bool → ℕ → Reading) → Reading
read_one at (bad n) room f = stuck (refusal_at n at)
read_one at (got v b) zero f = stuck (refusal_at no_room at)
read_one at (got v b) (suc room) f = prepend (v ∷ []) (f v b room)

-- items read from bits, with room for some values, the first bit standing at a place
abbrev pub read_items : Items → List Bool → ℕ → ℕ → Reading
read_items stop b room at = done [] at b
read_items (ask c k) b room at = read_one at (decode_item c b) room (λ v b' room'. read_items (k v) b' room' (at + length (value_bits c v)))

-- ── a message ──

-- the values and the bits that they take; or a refusal
pub data ReadOutcome : Type 0 where
  accept : List ℤ → ℕ → ReadOutcome
  refuse : Refusal → ReadOutcome

abbrev pub all_zero : List Bool → Bool
all_zero [] = true
all_zero (true ∷ b) = false
all_zero (false ∷ b) = all_zero b

-- last comes 9: after the root only zero bits, to the end of its last octet, where the message of n octets ends too
abbrev pub close_read : ℕ → Reading → ReadOutcome
close_read n (done vs at b) = cond (eqb n (size at) && all_zero b) (accept vs at) (refuse (refusal_at not_padding at))
close_read n (stuck refusal) = refuse refusal

-- all of the octets as one message; an empty one is 2 at place 0
abbrev pub decode : Items → List ℕ → ℕ → ReadOutcome
decode p [] room = refuse (refusal_at message_ends 0)
decode p (o ∷ os) room = close_read (length (o ∷ os)) (read_items p (unpack (o ∷ os)) room 0)

-- any octets as one message: 13 first
abbrev pub read_message : Items → List ℕ → ℕ → ReadOutcome
read_message p s room = cond (leb (length s) most_octets) (decode p s room) (refuse (refusal_at too_long 0))

-- ── as the calls answer it ──

abbrev pub read_answer : ReadOutcome → Answer
read_answer (accept vs bits) = accepted (length vs) bits 0
read_answer (refuse refusal) = Err refusal

-- the values that come back, none after a refusal
abbrev pub read_values : ReadOutcome → List ℤ
read_values (accept vs bits) = vs
read_values (refuse refusal) = []
