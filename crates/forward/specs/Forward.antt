-- The N-hop forwarding step (document 02, ticket 7): its answer, the list of seen records after it, and its output, for every message,
-- time, list and output. A list of records and when one is live: seen's specs/Records.antt.
use Rattle.std.specs.Prelude.{ℕ, ◌-◌, not, List, [], ◌++◌, leb, ltb, eqb, length, take, drop, set, Ok, Err}
use Rattle.bits.specs.Bits.{number_of, bits_of, unpack, pack}
use Rattle.bits.specs.Access.{most_octets}
use Rattle.answer.specs.Numbers.{message_ends, no_room, wrong_version, wrong_subtype, too_long, no_hops, id_seen, no_record, refusal_at, accepted, answer_if, Answer}
use Rattle.items.specs.Slices.{filled}
use Rattle.seen.specs.declared.Seen.{Seen}
use Rattle.seen.specs.Records.{holds, first_free, record_of}

-- ── the fields of the first four octets that the step looks at ──

-- the number that k bits of a message spell, from a place on
abbrev pub field : ℕ → ℕ → List ℕ → ℕ
field place k m = number_of (take k (drop place (unpack m)))

unfoldable pub subtype : List ℕ → ℕ
subtype m = field 0 4 m

unfoldable pub version : List ℕ → ℕ
version m = field 5 3 m

unfoldable pub message_id : List ℕ → ℕ
message_id m = field 8 22 m

unfoldable pub hop_count : List ℕ → ℕ
hop_count m = field 30 2 m

-- ── the answer ──

-- of a message m at a time t, with a list rs and an output of cap octets: each test in its order, with the refusal where it fails.
-- Accepted, the answer tells the message's length
unfoldable pub forward_answer : List ℕ → ℕ → List Seen → ℕ → Answer
forward_answer m t rs cap =
    answer_if (leb (length m) most_octets) (refusal_at too_long 0)
    (answer_if (leb 4 (length m)) (refusal_at message_ends 0)
    (answer_if (eqb (version m) 3) (refusal_at wrong_version 5)
    (answer_if (eqb (subtype m) 2) (refusal_at wrong_subtype 0)
    (answer_if (leb 1 (hop_count m)) (refusal_at no_hops 30)
    (answer_if (not (holds (message_id m) t rs)) (refusal_at id_seen 8)
    (answer_if (ltb (first_free t rs) (length rs)) (refusal_at no_record 0)
    (answer_if (leb (length m) cap) (refusal_at no_room 0)
    (accepted 0 0 (length m)))))))))

-- ── what the list and the output then hold ──

-- the message whose bits are those of m, but for the two of the hop count, which is one lower
unfoldable pub lowered : List ℕ → List ℕ
lowered m = pack (length m) (take 30 (unpack m) ++ (bits_of 2 (hop_count m - 1) ++ drop 32 (unpack m)))

-- accepted, the ID stands in the first record that wasn't live, with the time and in use; refused, the list is as it was
abbrev pub seen_by : Answer → List ℕ → ℕ → List Seen → List Seen
seen_by (Ok c) m t rs = set rs (first_free t rs) (record_of (message_id m) t)
seen_by (Err r) m t rs = rs

-- accepted, the message with its hop count one lower, and zeros after it; refused, zeros
abbrev pub output_by : Answer → List ℕ → ℕ → List ℕ
output_by (Ok c) m cap = filled 0 cap (lowered m)
output_by (Err r) m cap = filled 0 cap []

-- the list after a call
abbrev pub seen_after : List ℕ → ℕ → List Seen → ℕ → List Seen
seen_after m t rs cap = seen_by (forward_answer m t rs cap) m t rs

-- the output after a call
abbrev pub forward_output : List ℕ → ℕ → List Seen → ℕ → List ℕ
forward_output m t rs cap = output_by (forward_answer m t rs cap) m cap
