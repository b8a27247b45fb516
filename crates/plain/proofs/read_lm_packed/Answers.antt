-- `plain::read_lm_packed` meets its contract. The outcome kept, and zeros after it.
-- Assumes nothing.
use Prim.Native.Nat.{◌*◌, ◌/◌, ◌≤◌}
use mathlib.Core.Path.{◌∙◌}
use native.Mathlib.Omega.{arith}
use lib.ListN.{length}
use Rattle.items.specs.Reading.{read_values}
use Rattle.read_steps.proofs.Settled.{settled-packed}
use Rattle.lm.specs.ByName.{read_lm_outcome}
use Rattle.lm_guard.proofs.Tests.{lm_fits}
use Rattle.plain.proofs.Kept.{kept-is}
use Rattle.plain.proofs.read_lm_packed.Goals as goal

pub overflow_mul-kept : goal.overflow_mul-kept
overflow_mul-kept c =
    let a = c.args in
    let n = length a.values.now / 8 in
    omega (arith, kept-is a.message.now n _ _ c.kept_count-kept.ensures c.lm_message-answer.ensures.0, lm_fits a.message.now n)

pub clear-requires : goal.clear-requires
clear-requires c =
    let a = c.args in
    let n = length a.values.now / 8 in
    omega (
      arith,
      kept-is a.message.now n _ _ c.kept_count-kept.ensures c.lm_message-answer.ensures.0,
      lm_fits a.message.now n,
      c.lm_message-answer.auto.packed,
    )

pub returns : goal.returns
returns c =
    let a = c.args in
    let n = length a.values.now / 8 in
    let o = read_lm_outcome a.message.now n in
    let fits : 8 * length (read_values o) ≤ length a.values.now = omega (arith, lm_fits a.message.now n) in (
      c.lm_message-answer.ensures.0,
      c.clear.ensures
          ∙ rw (kept-is a.message.now n _ _ c.kept_count-kept.ensures c.lm_message-answer.ensures.0)
          (settled-packed o a.values.now _ fits c.lm_message-answer.auto.packed c.lm_message-answer.ensures.2),
    )
