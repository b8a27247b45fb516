-- Demand 3, sentence by sentence, over every table, message, list and slice length. The proof is proofs/Demand3.antt.
-- It speaks of document 01's rules (Obeys, in rules' specs/Rules.antt), of which lists a table allows (Allows, in items'
-- specs/Items.antt; asks, in specs/Rows.antt), of their encoding (items' specs/Encoding.antt), and of what the contracts of check,
-- read and write name (checked and verdict in table's specs/Verdict.antt; read_call and write_call in specs/Calls.antt; values_after
-- and output_after in items' specs/Slices.antt).
use Rattle.std.specs.Prelude.{ℕ, ◌≤◌, ◌<◌, ◌≡◌, ◌↔◌, List, ℤ, pos, length, get_or, take, Ok}
use Rattle.bits.specs.Access.{most_octets}
use Rattle.answer.specs.Numbers.{accepted}
use Rattle.answer.specs.declared.Counts.{Counts}
use Rattle.rules.specs.Rules.{Obeys}
use Rattle.table.specs.Verdict.{verdict, checked}
use Rattle.items.specs.Items.{Items, Allows, encoding_bits}
use Rattle.encoding.specs.Rows.{asks}
use Rattle.items.specs.Encoding.{encoding}
use Rattle.encoding.specs.Reading.{read_outcome}
use Rattle.encoding.specs.Writing.{write_outcome}
use Rattle.items.specs.Slices.{filled, values_after, output_after}
use Rattle.encoding.specs.Calls.{read_call, write_call}

-- every number of a list is an octet
abbrev pub AreOctets : List ℕ → Type 0
AreOctets o = (i : ℕ) → get_or o i 0 < 256

-- a message: octets, at most 65,535 of them
pub record Message (s : List ℕ) : Type 0 where
  pub octets : AreOctets s
  pub most : length s ≤ most_octets

-- a list that items allow, no longer than the slice, whose encoding is those octets
pub record Stands (p : Items) (s : List ℕ) (room : ℕ) (vs : List ℤ) : Type 0 where
  pub allowed : Allows p vs
  pub short : length vs ≤ room
  pub encodes : encoding p vs ≡ s

pub record Demand3 (t : List ℕ) : Type 1 where
  -- the check passes a table exactly when it obeys the rules
  pub checks : (checked (verdict t) ≡ accepted 0 0 0) ↔ Obeys t
  -- under a passed table, reading accepts exactly when some such list stands for the octets
  pub accepts : Obeys t → (s : List ℕ) → Message s → (room : ℕ)
      → ((counts : Counts) × (read_call t s room ≡ Ok counts)) ↔ ((vs : List ℤ) × Stands (asks t) s room vs)
  -- there is only one such list
  pub one : (s : List ℕ) (room : ℕ) (vs ws : List ℤ) → Stands (asks t) s room vs → Stands (asks t) s room ws → vs ≡ ws
  -- it comes back, followed by zeros, with its length and its bits as counts
  pub comes : Obeys t → (s : List ℕ) → Message s → (room : ℕ) (vs : List ℤ) → Stands (asks t) s room vs
      → (read_call t s room ≡ accepted (length vs) (length (encoding_bits (asks t) vs)) 0) × (values_after room (read_outcome t s room) ≡ filled (pos 0) room vs)
  -- written into any slice long enough it gives the same octets, then zeros, and the message's length
  pub returns : Obeys t → (s : List ℕ) → Message s → (room : ℕ) (vs : List ℤ) → Stands (asks t) s room vs → (cap : ℕ) → length s ≤ cap
      → (write_call t vs cap ≡ accepted 0 0 (length s)) × (output_after cap (write_outcome t vs cap) ≡ filled 0 cap s)
  -- two different messages that are accepted never give the same list, whatever slices they were read into
  pub apart : Obeys t → (s s' : List ℕ) → Message s → Message s' → (room room' : ℕ) (c c' : Counts)
      → read_call t s room ≡ Ok c → read_call t s' room' ≡ Ok c'
      → take c.values (values_after room (read_outcome t s room)) ≡ take c'.values (values_after room' (read_outcome t s' room'))
      → s ≡ s'
