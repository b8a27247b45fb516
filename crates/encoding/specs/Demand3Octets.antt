-- Demand 3 as a host has it: the lists are octets, eight for each value (document 01, the host's calls), in slices of any length.
-- It speaks of what the contracts of read_packed and write_packed, and of the exported calls, name: read_call with room for the
-- whole eights of a slice, packed_after, and write_call with the values that octets hold (values_in). What the eight octets of a
-- value are is TwosComplement, in values' specs/TwosComplement.antt. The proof is proofs/Demand3Octets.antt.
use Rattle.std.specs.Prelude.{ℕ, ◌+◌, ◌*◌, ◌/◌, ◌≤◌, ◌<◌, ◌≡◌, ◌↔◌, List, ◌++◌, ℤ, length, take, Ok}
use Rattle.answer.specs.Numbers.{accepted}
use Rattle.answer.specs.declared.Counts.{Counts}
use Rattle.values.specs.Values.{list_octets, values_in}
use Rattle.values.specs.TwosComplement.{Fitting}
use Rattle.rules.specs.Rules.{Obeys}
use Rattle.items.specs.Items.{Allows, encoding_bits}
use Rattle.encoding.specs.Rows.{asks}
use Rattle.encoding.specs.Reading.{read_outcome}
use Rattle.encoding.specs.Writing.{write_outcome}
use Rattle.items.specs.Slices.{filled, packed_after, output_after}
use Rattle.encoding.specs.Calls.{read_call, write_call}
use Rattle.encoding.specs.Demand3.{Message, Stands}

-- octets that are lent as a list are written as a message, into cap octets: it, then zeros, and its length as the count
pub record WrittenAs (t octets s : List ℕ) (cap : ℕ) : Type 0 where
  pub answer : write_call t (values_in octets) cap ≡ accepted 0 0 (length s)
  pub output : output_after cap (write_outcome t (values_in octets) cap) ≡ filled 0 cap s

pub record Demand3Octets (t : List ℕ) : Type 1 where
  -- every value of an allowed list fits eight octets
  pub fits : (vs : List ℤ) → Allows (asks t) vs → Fitting vs
  -- reading into a slice of any size accepts exactly when some allowed list, no longer than its whole eights, stands for the octets
  pub accepts : Obeys t → (s : List ℕ) → Message s → (size : ℕ)
      → ((counts : Counts) × (read_call t s (size / 8) ≡ Ok counts)) ↔ ((vs : List ℤ) × Stands (asks t) s (size / 8) vs)
  -- it comes back, eight octets for each value, then zeros, with its length and its bits as counts
  pub comes : Obeys t → (s : List ℕ) → Message s → (size : ℕ) (vs : List ℤ) → Stands (asks t) s (size / 8) vs
      → (read_call t s (size / 8) ≡ accepted (length vs) (length (encoding_bits (asks t) vs)) 0) × (packed_after size (read_outcome t s (size / 8)) ≡ filled 0 size (list_octets vs))
  -- the zeros reach the slice's real end, after a refusal too
  pub end : (s : List ℕ) (size : ℕ) → length (packed_after size (read_outcome t s (size / 8))) ≡ size
  -- read by the rule for octets, what came back begins with the list
  pub holds : Obeys t → (s : List ℕ) → Message s → (size : ℕ) (vs : List ℤ) → Stands (asks t) s (size / 8) vs
      → take (length vs) (values_in (packed_after size (read_outcome t s (size / 8)))) ≡ vs
  -- so many eights of the slice as values were told, and any fewer than eight octets after them, are written as the message
  pub returns : Obeys t → (s : List ℕ) → Message s → (size : ℕ) (vs : List ℤ) → Stands (asks t) s (size / 8) vs
      → (more : ℕ) → more < 8 → (cap : ℕ) → length s ≤ cap
      → WrittenAs t (take (8 * length vs + more) (packed_after size (read_outcome t s (size / 8)))) s cap
  -- and so are the octets of the list from anywhere, whatever fewer than eight follow them
  pub lent : Obeys t → (s : List ℕ) → Message s → (room : ℕ) (vs : List ℤ) → Stands (asks t) s room vs
      → (rest : List ℕ) → length rest < 8 → (cap : ℕ) → length s ≤ cap → WrittenAs t (list_octets vs ++ rest) s cap
  -- two different messages that are accepted never give the same octets, as many as the counts told say, whatever slices they were
  -- read into
  pub apart : Obeys t → (s s' : List ℕ) → Message s → Message s' → (size size' : ℕ) (c c' : Counts)
      → read_call t s (size / 8) ≡ Ok c → read_call t s' (size' / 8) ≡ Ok c'
      → take (8 * c.values) (packed_after size (read_outcome t s (size / 8))) ≡ take (8 * c'.values) (packed_after size' (read_outcome t s' (size' / 8)))
      → s ≡ s'
