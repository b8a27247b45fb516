-- Reading and writing an LM by name (document 01, "LM, SAM and SRM" and "Refusal numbers"): the tests that stand before the
-- table's own items, in that paper's order. They never apply to a lent table, even one with the same octets.
-- A SAM or an SRM has no such tests: by name it is read_outcome sam, write_outcome sam, read_outcome srm and write_outcome srm.
-- The table of LM is proved to pass the check (BuiltIn, in builtin's specs/Built.antt), so no refusal of a table occurs here.
use Rattle.std.specs.Prelude.{ℕ, Bool, true, false, List, leb, eqb, ℤ, pos, length, get_or, take, drop}
use Rattle.bits.specs.Access.{most_octets}
use Rattle.bits.specs.Bits.{number_of, unpack}
use Rattle.answer.specs.Numbers.{message_ends, wrong_version, wrong_subtype, wrong_value, too_long, refusal_at, Answer}
use Rattle.answer.specs.declared.Refusal.{Refusal}
use Rattle.item.specs.Code.{of_natural}
use Rattle.encoding.specs.Rows.{asks}
use Rattle.items.specs.Reading.{ReadOutcome, refuse, decode, read_answer}
use Rattle.items.specs.Writing.{WriteOutcome, unwritten, encode, write_answer}
use Rattle.builtin.specs.Tables.{lm}

-- ── reading ──

-- the number that the bits 5 to 7 of a message spell: an LM's version
unfoldable pub lm_version : List ℕ → ℕ
lm_version s = number_of (take 3 (drop 5 (unpack s)))

-- the number that the first four bits spell: an LM's subtype
unfoldable pub lm_subtype : List ℕ → ℕ
lm_subtype s = number_of (take 4 (unpack s))

-- an outcome, if a test holds; else a refusal
abbrev pub read_if : Bool → Refusal → ReadOutcome → ReadOutcome
read_if true refusal x = x
read_if false refusal x = refuse refusal

-- 13, then 2 on an empty message, then 10 and 11, then the items
unfoldable pub read_lm_outcome : List ℕ → ℕ → ReadOutcome
read_lm_outcome s room =
    read_if (leb (length s) most_octets) (refusal_at too_long 0)
    (read_if (leb 1 (length s)) (refusal_at message_ends 0)
    (read_if (eqb (lm_version s) 3) (refusal_at wrong_version 5)
    (read_if (leb (lm_subtype s) 2) (refusal_at wrong_subtype 0)
    (decode (asks lm) s room))))

-- ── writing ──

-- an outcome, if a test holds; else a refusal, whose place is the index of its value
abbrev pub write_if : Bool → Refusal → WriteOutcome → WriteOutcome
write_if true refusal x = x
write_if false refusal x = unwritten refusal

-- 12 on a list shorter than 3, 10 on the third value, 11 on the first, then the values in order
unfoldable pub write_lm_outcome : List ℤ → ℕ → WriteOutcome
write_lm_outcome vs cap =
    write_if (leb 3 (length vs)) (refusal_at wrong_value (length vs))
    (write_if (of_natural (λ n. eqb n 3) (get_or vs 2 (pos 0))) (refusal_at wrong_version 2)
    (write_if (of_natural (λ n. leb n 2) (get_or vs 0 (pos 0))) (refusal_at wrong_subtype 0)
    (encode (asks lm) vs cap)))

-- ── as the calls answer it ──

-- the call that reads an LM, on a message and a value slice of length room
abbrev pub read_lm_call : List ℕ → ℕ → Answer
read_lm_call s room = read_answer (read_lm_outcome s room)

-- the call that writes an LM, on a list and an output of cap octets
abbrev pub write_lm_call : List ℤ → ℕ → Answer
write_lm_call vs cap = write_answer (write_lm_outcome vs cap)
