-- Demand 3 for an LM asked for by name, sentence by sentence, over every message, list and slice length: the lists are those
-- of the table of LM whose version is 3. The proof is proofs/Demand3Lm.antt.
-- For a SAM or an SRM by name demand 3 is that of its table (encoding's specs/Demand3.antt, with sam and srm).
use Rattle.std.specs.Prelude.{ℕ, ◌≤◌, ◌≡◌, ◌↔◌, List, ℤ, pos, length, get_or, take, Ok}
use Rattle.answer.specs.Numbers.{accepted}
use Rattle.answer.specs.declared.Counts.{Counts}
use Rattle.table.specs.Verdict.{verdict, checked}
use Rattle.items.specs.Items.{encoding_bits}
use Rattle.encoding.specs.Rows.{asks}
use Rattle.items.specs.Slices.{filled, values_after, output_after}
use Rattle.encoding.specs.Demand3.{Message, Stands}
use Rattle.builtin.specs.Tables.{lm}
use Rattle.lm.specs.ByName.{read_lm_outcome, write_lm_outcome, read_lm_call, write_lm_call}

-- a list that the table of LM allows, no longer than the slice, whose encoding is those octets, and whose third value, the
-- version, is 3
pub record StandsLm (s : List ℕ) (room : ℕ) (vs : List ℤ) : Type 0 where
  pub stands : Stands (asks lm) s room vs
  pub version : get_or vs 2 (pos 0) ≡ pos 3

pub record Demand3Lm : Type 1 where
  -- the table passes the check
  pub checks : checked (verdict lm) ≡ accepted 0 0 0
  -- reading accepts exactly when some such list stands for the octets
  pub accepts : (s : List ℕ) → Message s → (room : ℕ)
      → ((counts : Counts) × (read_lm_call s room ≡ Ok counts)) ↔ ((vs : List ℤ) × StandsLm s room vs)
  -- there is only one such list
  pub one : (s : List ℕ) (room : ℕ) (vs ws : List ℤ) → StandsLm s room vs → StandsLm s room ws → vs ≡ ws
  -- it comes back, followed by zeros, with its length and its bits as counts
  pub comes : (s : List ℕ) → Message s → (room : ℕ) (vs : List ℤ) → StandsLm s room vs
      → (read_lm_call s room ≡ accepted (length vs) (length (encoding_bits (asks lm) vs)) 0) × (values_after room (read_lm_outcome s room) ≡ filled (pos 0) room vs)
  -- written by name into any slice long enough it gives the same octets, then zeros, and the message's length
  pub returns : (s : List ℕ) → Message s → (room : ℕ) (vs : List ℤ) → StandsLm s room vs → (cap : ℕ) → length s ≤ cap
      → (write_lm_call vs cap ≡ accepted 0 0 (length s)) × (output_after cap (write_lm_outcome vs cap) ≡ filled 0 cap s)
  -- two different messages that are accepted never give the same list, whatever slices they were read into
  pub apart : (s s' : List ℕ) → Message s → Message s' → (room room' : ℕ) (c c' : Counts)
      → read_lm_call s room ≡ Ok c → read_lm_call s' room' ≡ Ok c'
      → take c.values (values_after room (read_lm_outcome s room)) ≡ take c'.values (values_after room' (read_lm_outcome s' room'))
      → s ≡ s'
