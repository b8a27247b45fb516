-- Where the user data of an LM stands in its message, and the part that it is (document 01, "Refusal numbers": the part alone,
-- empty and from the message's start on a refusal; or the number and place, or the part's start and length). The refusals are
-- those of reading an LM by name, with room for all its values. Nothing here mentions the code.
use Rattle.std.specs.Prelude.{ℕ, suc, ◌-◌, ◌*◌, List, [], ◌∷◌, ℤ, pos, length, get_or, take, drop, Result, Ok, Err}
use Rattle.bits.specs.Access.{most_octets}
use Rattle.answer.specs.Numbers.{refusal_at}
use Rattle.item.specs.Code.{natural}
use Rattle.items.specs.Items.{Items, stop, ask, ◌then◌}
use Rattle.encoding.specs.Rows.{items}
use Rattle.items.specs.Reading.{ReadOutcome, accept, refuse}
use Rattle.builtin.specs.Tables.{lm}
use Rattle.lm.specs.ByName.{read_lm_outcome}
use Rattle.answer.specs.declared.Refusal.{Refusal}
use Rattle.userdata.specs.declared.Span.{Span}

-- a value for each bit of the longest message; with this room and with any more an LM has one outcome, and 8 is none
-- (specs/Placed.antt)
abbrev pub enough : ℕ
enough = 8 * most_octets

-- what the N-Header and then the T-Header ask for
unfoldable pub headers : Items
headers = items lm 204 then items lm 278

-- how many values from a list's start on are those that items ask for
abbrev pub taken : Items → List ℤ → ℕ
taken stop vs = 0
taken (ask c k) [] = 0
taken (ask c k) (v ∷ vs) = suc (taken (k v) vs)

-- the length of the user data: the first value after the headers
unfoldable pub data_length : List ℤ → ℕ
data_length vs = natural (get_or vs (taken headers vs) (pos 0))

-- where the user data stands; or the refusal
abbrev pub Found : Type 0
Found = Result Span Refusal

-- the case for each outcome: a part's start and length in octets; a refusal's number and place
abbrev pub found_at : ℕ → ℕ → Found
found_at start length = Ok (record { start = record { 0 = start }; length = record { 0 = length } })

abbrev pub not_found : ℕ → ℕ → Found
not_found number place = Err (refusal_at number place)

-- where it stands in a message of n octets, by the outcome of reading: it comes last
abbrev pub found_in : ℕ → ReadOutcome → Found
found_in n (accept vs bits) = found_at (n - data_length vs) (data_length vs)
found_in n (refuse refusal) = Err refusal

-- the call that says where
unfoldable pub user_data_found : List ℕ → Found
user_data_found s = found_in (length s) (read_lm_outcome s enough)

-- the call that gives the part
abbrev pub part_of : List ℕ → Found → List ℕ
part_of s (Ok span) = take span.length.0 (drop span.start.0 s)
part_of s (Err refusal) = []

-- and how far behind the message's start it starts
abbrev pub start_of : Found → ℕ
start_of (Ok span) = span.start.0
start_of (Err refusal) = 0
