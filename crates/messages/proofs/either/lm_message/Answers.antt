-- `messages::either::lm_message` meets its contract. What the tests refused; or the table's outcome.
-- Assumes nothing.
use mathlib.Core.Path.{sym, ◌∙◌}
use Rattle.builtin.specs.Tables.{lm}
use Rattle.builtin.proofs.Tables.{lm-obeys, lm-root}
use Rattle.lm_guard.proofs.Tests.{fine, unfit}
use Rattle.answer.proofs.Exits.{exit}
use Rattle.messages.proofs.either.lm_message.Goals as goal

pub returns-in_err-lm_tested : goal.returns-in_err-lm_tested
returns-in_err-lm_tested c =
    let a = c.args in
    rw (unfit a.message.now a.room _ (sym c.lm_tested.ensures ∙ c.in_err-lm_tested.was)) (exit _ c.from_residual.ensures.1, tt, tt)

pub read_message-requires : goal.read_message-requires
unfolding lm
read_message-requires c =
    let a = c.args in
    let f = fine a.message.now a.room _ (sym c.lm_tested.ensures ∙ c.in_ok-lm_tested.was) in
    (lm-obeys, sym lm-root, f.some, f.most)

pub returns : goal.returns
unfolding lm
returns c =
    let a = c.args in
    rw (fine a.message.now a.room _ (sym c.lm_tested.ensures ∙ c.in_ok-lm_tested.was)).outcome c.read_message.ensures
