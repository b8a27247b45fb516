-- What the calls answer. Their contracts cite these names, and for the lent slice those of items' specs/Slices.antt.
use Rattle.std.specs.Prelude.{ℕ, List, ℤ}
use Rattle.answer.specs.Numbers.{Answer}
use Rattle.items.specs.Reading.{read_answer}
use Rattle.encoding.specs.Reading.{read_outcome}
use Rattle.items.specs.Writing.{write_answer}
use Rattle.encoding.specs.Writing.{write_outcome}

-- the call `read` on a table, a message and a value slice of length room
abbrev pub read_call : List ℕ → List ℕ → ℕ → Answer
read_call t s room = read_answer (read_outcome t s room)

-- the call `write` on a table, a list and an output of cap octets
abbrev pub write_call : List ℕ → List ℤ → ℕ → Answer
write_call t vs cap = write_answer (write_outcome t vs cap)
