-- A call on a list that is handed over and given back: the list after it, and its answer.
use Rattle.std.specs.Prelude.{ℕ, List}
use Rattle.seen.specs.declared.Seen.{Seen}
use Rattle.forward.specs.Forward.{forward_answer, seen_after}
use Rattle.forward.specs.Parts.{step_of, kept_by}
use Rattle.forward.specs.declared.Ask.{Ask}
use Rattle.forwarding.specs.declared.Forwarded.{Forwarded}

-- of a message m at a time t, with a list rs and an output of cap octets
abbrev pub forwarded_in : List ℕ → ℕ → List Seen → ℕ → Forwarded
forwarded_in m t rs cap = record { seen = seen_after m t rs cap; answer = forward_answer m t rs cap }

-- of what such a call asks
abbrev pub taken_in : Ask → List Seen → Forwarded
taken_in a rs = record { seen = kept_by a rs; answer = (step_of a rs).answer }
