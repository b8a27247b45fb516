-- `codec::read` meets its contract. A broken table; or one that is known to pass.
-- Assumes nothing.
use mathlib.Core.Path.{sym, ap, ◌∙◌}
use lib.ListN.{length}
use mathlib.Core.List.{List}
use lib.IntN.{ℤ, pos}
use Rattle.items.specs.Slices.{filled}
use Rattle.reading.proofs.Passed.{accepted-obeys, broken-outcome}
use Rattle.codec.proofs.read.Goals as goal

pub returns-in-Err : goal.returns-in-Err
returns-in-Err c =
    let a = c.args in
    let b = broken-outcome a.table.now a.message.now (length a.values.now) _ _ c.check.ensures c.in-Err.is in
    (sym c.in-Err.is ∙ b.0, c.clear.ensures ∙ ap (λ (vs : List ℤ). filled (pos 0) (length a.values.now) vs) (sym b.1))

pub read_known-requires : goal.read_known-requires
read_known-requires c = (accepted-obeys c.args.table.now _ c.in_default.field-0 c.check.ensures c.in_default.is, c.root.ensures)
