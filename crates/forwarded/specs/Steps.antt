-- What one forwarding step comes to, in propositions, held against the definitions that the contracts cite (forward's
-- specs/Forward.antt, seen's specs/Records.antt): which messages go on, what changes in one, and what changes in the list.
-- The proof is proofs/Steps.antt.
use Rattle.std.specs.Prelude.{ℕ, ◌+◌, ◌≤◌, ◌<◌, true, false, ◌≢◌, ◌↔◌, ◌⊎◌, ◌≡◌, List, [], length, get_or, take, Err}
use Rattle.bits.specs.Bits.{unpack}
use Rattle.bits.specs.Access.{most_octets}
use Rattle.answer.specs.Numbers.{accepted}
use Rattle.answer.specs.declared.Refusal.{Refusal}
use Rattle.items.specs.Slices.{filled}
use Rattle.seen.specs.declared.Seen.{Seen}
use Rattle.seen.specs.Records.{record_of, blank}
use Rattle.forward.specs.Forward.{version, subtype, message_id, hop_count, lowered, forward_answer, seen_after, forward_output}

-- its time is later than t, or less than 5,000 before
abbrev pub Near : ℕ → Seen → Type 0
Near t r = (t < r.time) ⊎ ((r.time ≤ t) × (t < r.time + 5000))

-- a record is live at a time
abbrev pub Live : ℕ → Seen → Type 0
Live t r = (r.used ≡ true) × Near t r

-- the record at an index
abbrev pub at : List Seen → ℕ → Seen
at rs i = get_or rs i blank

-- none of the tests of a message alone refuses it: 13, 2, 10, 11 and 40
pub record Heads (m : List ℕ) : Type 0 where
  pub most : length m ≤ most_octets
  pub long : 4 ≤ length m
  pub three : version m ≡ 3
  pub two : subtype m ≡ 2
  pub hops : 1 ≤ hop_count m

-- none of the refusals meets it
pub record Passes (m : List ℕ) (t : ℕ) (rs : List Seen) (cap : ℕ) : Type 0 where
  pub head : Heads m
  -- no live record has its ID
  pub unseen : (i : ℕ) → i < length rs → Live t (at rs i) → (at rs i).id ≢ message_id m
  -- some record isn't live
  pub free : (i : ℕ) × (i < length rs) × (Live t (at rs i) → ⊥)
  pub fits : length m ≤ cap

-- a message with its hop count one lower: only bits 30 and 31 change
pub record OneLower (m : List ℕ) : Type 0 where
  pub size : length (lowered m) ≡ length m
  pub octets : (i : ℕ) → get_or (lowered m) i 0 < 256
  pub others : (i : ℕ) → i ≢ 30 → i ≢ 31 → get_or (unpack (lowered m)) i false ≡ get_or (unpack m) i false
  pub hops : hop_count (lowered m) + 1 ≡ hop_count m

-- a list in which an ID was stored at a time: the record is the first that wasn't live, and no other changes
pub record Stored (id t : ℕ) (rs after : List Seen) : Type 0 where
  pub index : ℕ
  pub inside : index < length rs
  pub was_free : Live t (at rs index) → ⊥
  pub first : (i : ℕ) → i < index → Live t (at rs i)
  pub stored : at after index ≡ record_of id t
  pub others : (i : ℕ) → i ≢ index → at after i ≡ at rs i
  pub count : length after ≡ length rs

pub record Steps : Type 0 where
  -- a message goes on exactly if none of the refusals meets it, and its length is told
  pub exactly : (m : List ℕ) (t : ℕ) (rs : List Seen) (cap : ℕ) → (forward_answer m t rs cap ≡ accepted 0 0 (length m)) ↔ Passes m t rs cap
  -- octets after the fourth aren't looked at: with the same four and as many in all, the answer and the list are the same
  pub blind : (m n : List ℕ) → take 4 m ≡ take 4 n → length m ≡ length n → (t : ℕ) (rs : List Seen) (cap : ℕ)
      → (forward_answer m t rs cap ≡ forward_answer n t rs cap) × (seen_after m t rs cap ≡ seen_after n t rs cap)
  -- where it goes on, the output is the message with its hop count one lower, and zeros; and its ID is stored
  pub output : (m : List ℕ) (t : ℕ) (rs : List Seen) (cap : ℕ) → Passes m t rs cap → forward_output m t rs cap ≡ filled 0 cap (lowered m)
  pub lowers : (m : List ℕ) → 4 ≤ length m → 1 ≤ hop_count m → OneLower m
  pub stores : (m : List ℕ) (t : ℕ) (rs : List Seen) (cap : ℕ) → Passes m t rs cap → Stored (message_id m) t rs (seen_after m t rs cap)
  -- a refusal changes no record and leaves zeros
  pub refuses : (m : List ℕ) (t : ℕ) (rs : List Seen) (cap : ℕ) (r : Refusal) → forward_answer m t rs cap ≡ Err r → (seen_after m t rs cap ≡ rs) × (forward_output m t rs cap ≡ filled 0 cap [])
