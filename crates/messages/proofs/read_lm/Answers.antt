-- `messages::read_lm` meets its contract. The outcome kept, and zeros after it.
-- Assumes nothing.
use Prim.Native.Nat.{ℕ}
use mathlib.Core.Path.{◌≡◌, ap, ◌∙◌}
use mathlib.Core.List.{List}
use native.Mathlib.Omega.{arith}
use lib.ListN.{length}
use Rattle.answer.specs.Numbers.{Answer}
use Rattle.items.specs.Reading.{read_answer, read_values}
use Rattle.read_steps.specs.Ends.{kept_count}
use Rattle.read_steps.proofs.Settled.{count-is, settled-values}
use Rattle.lm.specs.ByName.{read_lm_outcome}
use Rattle.lm_guard.proofs.Tests.{lm_fits}
use Rattle.messages.proofs.read_lm.Goals as goal

-- the values kept are those of the outcome
kept-is : (m : List ℕ) (room : ℕ) (answer : Answer) (kept : ℕ) → kept ≡ kept_count answer → answer ≡ read_answer (read_lm_outcome m room) → kept ≡ length (read_values (read_lm_outcome m room))
kept-is m room answer kept k e = k ∙ ap kept_count e ∙ count-is (read_lm_outcome m room)

pub clear-requires : goal.clear-requires
clear-requires c =
    let a = c.args in
    let n = length a.values.now in
    omega (
      arith,
      kept-is a.message.now n _ _ c.kept_count-kept.ensures c.lm_message-answer.ensures.0,
      lm_fits a.message.now n,
      c.lm_message-answer.auto.values,
    )

pub returns : goal.returns
returns c =
    let a = c.args in
    let n = length a.values.now in
    let o = read_lm_outcome a.message.now n in (
      c.lm_message-answer.ensures.0,
      c.clear.ensures
          ∙ rw (kept-is a.message.now n _ _ c.kept_count-kept.ensures c.lm_message-answer.ensures.0)
          (settled-values o a.values.now _ (lm_fits a.message.now n) c.lm_message-answer.auto.values c.lm_message-answer.ensures.1),
    )
