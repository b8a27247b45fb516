-- The outcome of writing items (document 01, "Refusal numbers"): for every list and every length of output, the octets, or the
-- refusal's number and the index of its value.
use Rattle.std.specs.Prelude.{ℕ, zero, suc, ◌+◌, ◌-◌, ◌*◌, min, Bool, true, false, List, [], ◌∷◌, ◌++◌, leb, ℤ, length, Err}
use Rattle.bits.specs.Access.{most_octets}
use Rattle.answer.specs.Numbers.{no_room, wrong_value, refusal_at, accepted, Answer}
use Rattle.answer.specs.declared.Refusal.{Refusal}
use Rattle.item.specs.Code.{allows, value_bits}
use Rattle.items.specs.Items.{Items, stop, ask}
use Rattle.items.specs.Encoding.{padded}

-- ── items in order ──

-- the bits and the values left over; or a refusal, whose place is the value's index
pub data Writing : Type 0 where
  spelt : List Bool → List ℤ → Writing
  halted : Refusal → Writing

abbrev pub unless : Bool → Refusal → Writing → Writing
unless true refusal w = w
unless false refusal w = halted refusal

abbrev pub behind : List Bool → Writing → Writing
behind a (spelt b vs) = spelt (a ++ b) vs
behind a (halted refusal) = halted refusal

-- values written, with room for some bits, the first value at index i: each for 12, then 8
abbrev pub write_items : Items → List ℤ → ℕ → ℕ → Writing
write_items stop vs room i = spelt [] vs
write_items (ask c k) [] room i = halted (refusal_at wrong_value i)
write_items (ask c k) (v ∷ vs) room i =
    unless (allows c v) (refusal_at wrong_value i)
    (unless (leb (length (value_bits c v)) room) (refusal_at no_room i)
    (behind (value_bits c v) (write_items (k v) vs (room - length (value_bits c v)) (suc i))))

-- ── a message ──

-- the octets; or a refusal
pub data WriteOutcome : Type 0 where
  written : List ℕ → WriteOutcome
  unwritten : Refusal → WriteOutcome

-- of a list of n values into cap octets: left over values; then 8 for a root of 0 bits and no output
abbrev pub close_write : ℕ → ℕ → Writing → WriteOutcome
close_write n cap (halted refusal) = unwritten refusal
close_write n cap (spelt b (v ∷ vs)) = unwritten (refusal_at wrong_value (n - length (v ∷ vs)))
close_write n zero (spelt b []) = unwritten (refusal_at no_room n)
close_write n (suc cap) (spelt b []) = written (padded b)

-- a list written into cap octets; above 65,535 they count as that many
abbrev pub encode : Items → List ℤ → ℕ → WriteOutcome
encode p vs cap = close_write (length vs) cap (write_items p vs (8 * min cap most_octets) 0)

-- ── as the calls answer it ──

abbrev pub write_answer : WriteOutcome → Answer
write_answer (written s) = accepted 0 0 (length s)
write_answer (unwritten refusal) = Err refusal

-- the octets that come back, none after a refusal
abbrev pub write_octets : WriteOutcome → List ℕ
write_octets (written s) = s
write_octets (unwritten refusal) = []
