-- `codec::write_lent` meets its contract. A broken table; or one that is known to pass.
-- Assumes nothing.
use Prim.Native.Nat.{ℕ}
use mathlib.Core.Path.{sym, ap, ◌∙◌}
use lib.ListN.{length}
use mathlib.Core.List.{List}
use Rattle.items.specs.Slices.{filled}
use Rattle.write_steps.specs.Writes.{list_in}
use Rattle.reading.proofs.Passed.{accepted-obeys}
use Rattle.writing.proofs.Passed.{write-broken}
use Rattle.codec.proofs.write_lent.Goals as goal

pub returns-in-Err : goal.returns-in-Err
returns-in-Err c =
    let a = c.args in
    let list = list_in a.values.now a.packed.now in
    let n = length a.output.now in
    let b = write-broken a.table.now list n _ _ c.check.ensures c.in-Err.is in
    (sym c.in-Err.is ∙ b.0, c.clear.ensures ∙ ap (λ (s : List ℕ). filled 0 n s) (sym b.1))

pub write_known-requires : goal.write_known-requires
write_known-requires c = (accepted-obeys c.args.table.now _ _ c.check.ensures c.in_default.is, c.root.ensures)
