-- The outcome of reading under a table that was passed. No contract of a public call cites this file.
use Rattle.std.specs.Prelude.{ℕ, List}
use Rattle.items.specs.Reading.{ReadOutcome, read_message}
use Rattle.encoding.specs.Rows.{asks}

-- reading under a table that was passed
abbrev pub message_outcome : List ℕ → List ℕ → ℕ → ReadOutcome
message_outcome t s room = read_message (asks t) s room
