-- `loaded::read_values` meets its contract. The outcome kept, and zeros after it.
-- Assumes nothing.
use mathlib.Core.Path.{◌≡◌, ap, ◌∙◌}
use native.Mathlib.Omega.{arith}
use lib.ListN.{length}
use Rattle.items.specs.Reading.{read_values}
use Rattle.read_steps.specs.Ends.{kept_count}
use Rattle.read_steps.proofs.Settled.{count-is, settled-values}
use Rattle.loading.specs.State.{through_state}
use Rattle.loaded.proofs.Through.{through_fits}
use Rattle.loaded.proofs.read_values.Goals as goal

pub clear-requires : goal.clear-requires
clear-requires c =
    let a = c.args in
    let n = length a.values.now in
    let o = through_state a.state.now a.message.now n in
    let k : c.kept_count-kept.result ≡ length (read_values o) = c.kept_count-kept.ensures ∙ ap kept_count c.read_either-answer.ensures.0 ∙ count-is o in
    omega (arith, through_fits a.state.now a.message.now n, c.read_either-answer.auto.values)

pub returns : goal.returns
returns c =
    let a = c.args in
    let n = length a.values.now in
    let o = through_state a.state.now a.message.now n in
    let k : c.kept_count-kept.result ≡ length (read_values o) = c.kept_count-kept.ensures ∙ ap kept_count c.read_either-answer.ensures.0 ∙ count-is o in
    (c.read_either-answer.ensures.0, c.clear.ensures ∙ rw k (settled-values o a.values.now _ (through_fits a.state.now a.message.now n) c.read_either-answer.auto.values c.read_either-answer.ensures.1))
