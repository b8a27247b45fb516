-- Forwarding an LM (document 02, ticket 7): of an N-hop LM in clause 5's layout the output is that LM with its hop count one lower; so
-- what was accepted by name before is accepted after. The proof is proofs/OfLm.antt.
use Rattle.std.specs.Prelude.{ℕ, ◌-◌, ◌≤◌, ◌≡◌, List, ℤ, pos, length, set}
use Rattle.items.specs.Reading.{accept}
use Rattle.encoding.specs.Demand3.{Message}
use Rattle.lm.specs.Clause5.{Lm, NHopForwarding, n_hop_forwarding, THeader}
use Rattle.lm.specs.Demand2.{LaidOut}
use Rattle.lm.specs.ByName.{lm_version, lm_subtype, read_lm_outcome}
use Rattle.forward.specs.Forward.{version, subtype, message_id, hop_count, lowered}
use Rattle.forwarded.specs.Steps.{Heads}

-- an N-hop LM
abbrev pub n_hop_lm : NHopForwarding → THeader → List ℕ → Lm
n_hop_lm h transport user_data = record { network = n_hop_forwarding h; transport = transport; user_data = user_data }

-- its header with a hop count one lower
abbrev pub one_less : NHopForwarding → NHopForwarding
one_less h = record { version = h.version; message_id = h.message_id; hop_count = h.hop_count - 1; extensions = h.extensions }

-- the fields that the step looks at are the header's
pub record FieldsOf (s : List ℕ) (h : NHopForwarding) : Type 0 where
  pub long : 4 ≤ length s
  pub two : subtype s ≡ 2
  pub version : version s ≡ h.version
  pub id : message_id s ≡ h.message_id
  pub hops : hop_count s ≡ h.hop_count

pub record OfLm : Type 0 where
  -- the step tests the version and the subtype that reading by name tests
  pub tests : (m : List ℕ) → (version m ≡ lm_version m) × (subtype m ≡ lm_subtype m)
  -- and in an N-hop LM its fields are those of the header; so none of the tests before the list refuses one whose hop count is not 0
  pub fields : (s : List ℕ) (h : NHopForwarding) (transport : THeader) (user_data : List ℕ) → LaidOut s (n_hop_lm h transport user_data) → FieldsOf s h
  pub heads : (s : List ℕ) → Message s → (h : NHopForwarding) (transport : THeader) (user_data : List ℕ) → LaidOut s (n_hop_lm h transport user_data) → 1 ≤ h.hop_count → Heads s
  -- its octets become those of the LM with one less
  pub laid : (s : List ℕ) (h : NHopForwarding) (transport : THeader) (user_data : List ℕ) → LaidOut s (n_hop_lm h transport user_data) → 1 ≤ h.hop_count
      → LaidOut (lowered s) (n_hop_lm (one_less h) transport user_data)
  -- what reading by name accepts as an N-hop LM whose hop count is not 0, it accepts again: the list has the fifth value one lower
  pub reads : (s : List ℕ) → Message s → (room : ℕ) (vs : List ℤ) (n : ℕ) → read_lm_outcome s room ≡ accept vs n → subtype s ≡ 2 → 1 ≤ hop_count s
      → read_lm_outcome (lowered s) room ≡ accept (set vs 4 (pos (hop_count s - 1))) n
