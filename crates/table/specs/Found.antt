-- What the pass over a table finds: by its verdict, how many rows it has and its root, or the refusal.
use Rattle.std.specs.Prelude.{ℕ, Result, Ok, Err, List}
use Rattle.answer.specs.declared.Refusal.{Refusal}
use Rattle.table.specs.declared.pass.Found.{Found}
use Rattle.table.specs.Verdict.{Verdict, passed, broken, verdict}
use Rattle.table.specs.Root.{root}
use Rattle.table.specs.Summary.{row_count}

-- of a table with a verdict
abbrev pub found_by : Verdict → List ℕ → Result Found Refusal
found_by passed t = Ok (record { rows = row_count t; root = root t })
found_by (broken refusal) t = Err refusal

unfoldable pub pass_of : List ℕ → Result Found Refusal
pass_of t = found_by (verdict t) t
