-- `plain::read_lm` meets its contract. The outcome kept, and zeros after it.
-- Assumes nothing.
use mathlib.Core.Path.{◌∙◌}
use native.Mathlib.Omega.{arith}
use lib.ListN.{length}
use Rattle.read_steps.proofs.Settled.{settled-values}
use Rattle.lm.specs.ByName.{read_lm_outcome}
use Rattle.lm_guard.proofs.Tests.{lm_fits}
use Rattle.plain.proofs.Kept.{kept-is}
use Rattle.plain.proofs.read_lm.Goals as goal

pub clear-requires : goal.clear-requires
clear-requires c =
    let a = c.args in
    let n = length a.values.now in
    omega (
      arith,
      kept-is a.message.now n _ _ c.kept_count-kept.ensures c.lm_message-answer.ensures.0,
      lm_fits a.message.now n,
      c.lm_message-answer.auto.values,
    )

pub returns : goal.returns
returns c =
    let a = c.args in
    let n = length a.values.now in
    let o = read_lm_outcome a.message.now n in (
      c.lm_message-answer.ensures.0,
      c.clear.ensures
          ∙ rw (kept-is a.message.now n _ _ c.kept_count-kept.ensures c.lm_message-answer.ensures.0)
          (settled-values o a.values.now _ (lm_fits a.message.now n) c.lm_message-answer.auto.values c.lm_message-answer.ensures.1),
    )
