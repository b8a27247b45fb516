-- The refusal numbers of document 01, and of document 02's tickets that have landed, by name, and which case of an answer stands for
-- those papers' number and values.
use Rattle.std.specs.Prelude.{ℕ, Result, Ok, Err, Bool, true, false, ◌≡◌}
use Rattle.answer.specs.declared.Counts.{Counts}
use Rattle.answer.specs.declared.Reason.{Reason}
use Rattle.answer.specs.declared.Reason.TheVariants.{TableSize, MessageEnds, AboveSpan, NoBranch, BadLength, OutsideLimits, BadVariable, NoRoom, NotPadding, WrongVersion, WrongSubtype, WrongValue, TooLong, RowPastEnd, UnknownKind, WrongRowLength, WrongRowNumber, WrongReference, OnlyReserved, TooDeep, NoTable, NoHops, Seen, NoRecord}
use Rattle.answer.specs.declared.Refusal.{Refusal}

-- the numbers
abbrev pub table_size : ℕ
table_size = 1

abbrev pub message_ends : ℕ
message_ends = 2

abbrev pub above_span : ℕ
above_span = 3

abbrev pub no_branch : ℕ
no_branch = 4

abbrev pub bad_length : ℕ
bad_length = 5

abbrev pub outside_limits : ℕ
outside_limits = 6

abbrev pub bad_variable : ℕ
bad_variable = 7

abbrev pub no_room : ℕ
no_room = 8

abbrev pub not_padding : ℕ
not_padding = 9

abbrev pub wrong_version : ℕ
wrong_version = 10

abbrev pub wrong_subtype : ℕ
wrong_subtype = 11

abbrev pub wrong_value : ℕ
wrong_value = 12

abbrev pub too_long : ℕ
too_long = 13

-- of a row (document 02, ticket 1)
abbrev pub row_past_end : ℕ
row_past_end = 20

abbrev pub unknown_kind : ℕ
unknown_kind = 21

abbrev pub wrong_row_length : ℕ
wrong_row_length = 22

abbrev pub wrong_row_number : ℕ
wrong_row_number = 23

abbrev pub wrong_reference : ℕ
wrong_reference = 24

abbrev pub only_reserved : ℕ
only_reserved = 25

abbrev pub too_deep : ℕ
too_deep = 26

-- of a state that holds no table (document 02, ticket 3)
abbrev pub no_table : ℕ
no_table = 27

-- of forwarding (document 02, ticket 7)
abbrev pub no_hops : ℕ
no_hops = 40

abbrev pub id_seen : ℕ
id_seen = 41

abbrev pub no_record : ℕ
no_record = 42

-- the number of each reason that the code gives
abbrev pub reason_number : Reason → ℕ
reason_number TableSize = table_size
reason_number MessageEnds = message_ends
reason_number AboveSpan = above_span
reason_number NoBranch = no_branch
reason_number BadLength = bad_length
reason_number OutsideLimits = outside_limits
reason_number BadVariable = bad_variable
reason_number NoRoom = no_room
reason_number NotPadding = not_padding
reason_number WrongVersion = wrong_version
reason_number WrongSubtype = wrong_subtype
reason_number WrongValue = wrong_value
reason_number TooLong = too_long
reason_number RowPastEnd = row_past_end
reason_number UnknownKind = unknown_kind
reason_number WrongRowLength = wrong_row_length
reason_number WrongRowNumber = wrong_row_number
reason_number WrongReference = wrong_reference
reason_number OnlyReserved = only_reserved
reason_number TooDeep = too_deep
reason_number NoTable = no_table
reason_number NoHops = no_hops
reason_number Seen = id_seen
reason_number NoRecord = no_record

-- what a call answers: its counts, or the refusal
abbrev pub Answer : Type 0
Answer = Result Counts Refusal

-- an outcome as document 01 tells it: a refusal's number, 0 where it is accepted; its place; the values, bits and octets counted
pub record Outcome : Type 0 where
  pub number : ℕ
  pub place : ℕ
  pub values : ℕ
  pub bits : ℕ
  pub octets : ℕ

-- a refusal of a number at a place: the one that every promise of a refusal cites, so that a refusal travels whole
abbrev pub refusal_at : ℕ → ℕ → Refusal
refusal_at number place = record { number = number; place = place }

-- the case for each outcome: a refusal's number and place; the values, bits and octets counted. Every promise of an answer uses
-- `accepted`, and `refused` or `Err` of a refusal that `refusal_at` made
abbrev pub refused : ℕ → ℕ → Answer
refused number place = Err (refusal_at number place)

abbrev pub accepted : ℕ → ℕ → ℕ → Answer
accepted values bits octets = Ok (record { values = values; bits = record { 0 = bits }; octets = record { 0 = octets } })

-- an answer, if a test holds; else a refusal
abbrev pub answer_if : Bool → Refusal → Answer → Answer
answer_if true refusal x = x
answer_if false refusal x = Err refusal

-- and back: the number and values for each case, as the host is told them
abbrev pub outcome_of : Answer → Outcome
outcome_of (Ok c) = record { number = 0; place = 0; values = c.values; bits = c.bits.0; octets = c.octets.0 }
outcome_of (Err r) = record { number = r.number; place = r.place; values = 0; bits = 0; octets = 0 }

-- which is what the case was made of. The proof is proofs/Numbers.antt
pub record Inverse : Type 0 where
  pub accepts : (v b o : ℕ) → outcome_of (accepted v b o) ≡ record { number = 0; place = 0; values = v; bits = b; octets = o }
  pub refuses : (n p : ℕ) → outcome_of (refused n p) ≡ record { number = n; place = p; values = 0; bits = 0; octets = 0 }
