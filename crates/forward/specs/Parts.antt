-- The step in parts, as code passes them on: the tests of a message alone, what they ask of the list, and what is decided by an index
-- that each of two searches gives. No contract of a public call cites this file: proofs/Together.antt says that the parts together are
-- Forward.antt's answer and list.
use Rattle.std.specs.Prelude.{ℕ, ◌≤◌, cond, Bool, true, false, List, leb, ltb, eqb, length, set, Result, Ok, Err}
use Rattle.bits.specs.Access.{most_octets}
use Rattle.bits.specs.declared.OctetSize.{OctetSize}
use Rattle.answer.specs.Numbers.{message_ends, no_room, wrong_version, wrong_subtype, too_long, no_hops, id_seen, no_record, refusal_at, accepted, Answer}
use Rattle.answer.specs.declared.Refusal.{Refusal}
use Rattle.seen.specs.declared.Seen.{Seen}
use Rattle.seen.specs.declared.Sought.TheVariants.{Id, Free, Any}
use Rattle.seen.specs.declared.Want.{Want}
use Rattle.seen.specs.Records.{first_with, record_of}
use Rattle.seen.specs.Search.{any_record, wanted_by}
use Rattle.forward.specs.Forward.{subtype, version, message_id, hop_count}
use Rattle.forward.specs.declared.Ask.{Ask}
use Rattle.forward.specs.declared.Step.{Step}

-- ── the message alone ──

-- what a message asks of the list: nothing, for it is refused before; or whether it may go on under its ID
abbrev pub Head : Type 0
Head = Result ℕ Refusal

-- a head that is refused
abbrev pub refused_head : Refusal → Head
refused_head r = Err r

-- a head, if a test holds; else a refusal
abbrev pub head_if : Bool → Refusal → Head → Head
head_if true refusal x = x
head_if false refusal x = Err refusal

-- the first five tests of Forward.antt's answer, and then the ID
unfoldable pub head_of : List ℕ → Head
head_of m =
    head_if (leb (length m) most_octets) (refusal_at too_long 0)
    (head_if (leb 4 (length m)) (refusal_at message_ends 0)
    (head_if (eqb (version m) 3) (refusal_at wrong_version 5)
    (head_if (eqb (subtype m) 2) (refusal_at wrong_subtype 0)
    (head_if (leb 1 (hop_count m)) (refusal_at no_hops 30)
    (Ok (message_id m))))))

-- what a message at a time t, with an output of cap octets, asks of the list
abbrev pub ask_of : List ℕ → ℕ → ℕ → Ask
ask_of m t cap = record { head = head_of m; time = t; octets = record { 0 = length m }; fits = leb (length m) cap }

-- ── the two searches ──

-- the search for the ID; of a refused head for any record
abbrev pub wants_id : Head → ℕ → Want
wants_id (Err r) t = any_record t
wants_id (Ok id) t = record { time = t; sought = Id id }

-- the search for a record that isn't live, if the first search ran to the end; else for any record
abbrev pub wants_free : Head → ℕ → ℕ → ℕ → Want
wants_free (Err r) t held count = any_record t
wants_free (Ok id) t held count = record { time = t; sought = cond (leb count held) Free Any }

-- ── what is decided ──

-- nothing is stored: the index is past the end
abbrev pub stays : ℕ → Refusal → Step
stays count r = record { at = count; answer = Err r }

-- a step, if a test holds; else a refusal
abbrev pub step_if : Bool → ℕ → Refusal → Step → Step
step_if true count r x = x
step_if false count r x = stays count r

-- the last three tests, by the indices that the searches gave, and then the record to store into
unfoldable pub chosen : OctetSize → Bool → ℕ → ℕ → ℕ → Step
chosen octets fits held free count =
    step_if (leb count held) count (refusal_at id_seen 8)
    (step_if (ltb free count) count (refusal_at no_record 0)
    (step_if fits count (refusal_at no_room 0)
    (record { at = free; answer = accepted 0 0 octets.0 })))

-- a refused head is its refusal
abbrev pub decided : Head → OctetSize → Bool → ℕ → ℕ → ℕ → Step
decided (Err r) octets fits held free count = stays count r
decided (Ok id) octets fits held free count = chosen octets fits held free count

-- the index that each search of a list gives
abbrev pub held_in : Ask → List Seen → ℕ
held_in a rs = first_with (wanted_by (wants_id a.head a.time)) rs

abbrev pub free_in : Ask → List Seen → ℕ
free_in a rs = first_with (wanted_by (wants_free a.head a.time (held_in a rs) (length rs))) rs

-- and what is decided by them
unfoldable pub step_of : Ask → List Seen → Step
step_of a rs = decided a.head a.octets a.fits (held_in a rs) (free_in a rs) (length rs)

-- the record that is stored
abbrev pub stored_by : Head → ℕ → Seen
stored_by (Err r) t = record_of 0 t
stored_by (Ok id) t = record_of id t

-- the list once a step is taken
abbrev pub kept_by : Ask → List Seen → List Seen
kept_by a rs = set rs (step_of a rs).at (stored_by a.head a.time)

-- ── the output ──

-- what an answer that lets a message go on has seen of it
abbrev pub Emits : Answer → List ℕ → ℕ → Type 0
Emits (Ok c) m cap = (4 ≤ length m) × (1 ≤ hop_count m) × (length m ≤ cap)
Emits (Err r) m cap = Unit
