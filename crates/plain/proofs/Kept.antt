-- How many values a plain reading of an LM kept.
-- Assumes nothing.
use Prim.Native.Nat.{ℕ}
use mathlib.Core.Path.{◌≡◌, ap, ◌∙◌}
use mathlib.Core.List.{List}
use lib.ListN.{length}
use Rattle.answer.specs.Numbers.{Answer}
use Rattle.items.specs.Reading.{read_answer, read_values}
use Rattle.read_steps.specs.Ends.{kept_count}
use Rattle.read_steps.proofs.Settled.{count-is}
use Rattle.lm.specs.ByName.{read_lm_outcome}

-- those of the outcome
pub kept-is : (m : List ℕ) (room : ℕ) (answer : Answer) (kept : ℕ) → kept ≡ kept_count answer → answer ≡ read_answer (read_lm_outcome m room) → kept ≡ length (read_values (read_lm_outcome m room))
kept-is m room answer kept k e = k ∙ ap kept_count e ∙ count-is (read_lm_outcome m room)
