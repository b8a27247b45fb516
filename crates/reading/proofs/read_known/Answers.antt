-- `reading::read_known` meets its contract. The outcome kept, and zeros after it.
-- Assumes nothing.
use mathlib.Core.Path.{◌≡◌, ap, ◌∙◌}
use native.Mathlib.Omega.{arith}
use lib.ListN.{length}
use Rattle.items.specs.Reading.{read_values}
use Rattle.read_steps.specs.Ends.{kept_count}
use Rattle.reading.specs.Outcome.{message_outcome}
use Rattle.encoding.specs.Rows.{asks}
use Rattle.items.proofs.Messages.{message_fits}
use Rattle.reading.proofs.Passed.{passed-outcome}
use Rattle.read_steps.proofs.Settled.{count-is, settled-values}
use Rattle.reading.proofs.read_known.Goals as goal

pub clear-requires : goal.clear-requires
clear-requires c =
    let a = c.args in
    let n = length a.values.now in
    let o = message_outcome a.table.now a.message.now n in
    let k : c.kept_count-kept.result ≡ length (read_values o) = c.kept_count-kept.ensures ∙ ap kept_count c.read_passed-answer.ensures.0 ∙ count-is o in
    omega (arith, message_fits (asks a.table.now) a.message.now n, c.read_passed-answer.auto.values)

pub returns : goal.returns
returns c =
    let a = c.args in
    let n = length a.values.now in
    let o = message_outcome a.table.now a.message.now n in
    let k : c.kept_count-kept.result ≡ length (read_values o) = c.kept_count-kept.ensures ∙ ap kept_count c.read_passed-answer.ensures.0 ∙ count-is o in
    rw (passed-outcome a.table.now a.message.now n c.requires.0)
    (c.read_passed-answer.ensures.0, c.clear.ensures ∙ rw k (settled-values o a.values.now _ (message_fits (asks a.table.now) a.message.now n) c.read_passed-answer.auto.values c.read_passed-answer.ensures.1))
