-- `writing::write_root` meets its contract. The root from the first bit and the first value on; then its end.
-- Assumes nothing.
use Prim.Native.Nat.{ℕ, ◌+◌}
use mathlib.Core.Path.{◌≡◌, sym, ap, ◌∙◌}
use native.Mathlib.Omega.{arith}
use lib.ListN.{length, length-append}
use Rattle.item.proofs.Returned.{returned}
use Rattle.table.proofs.LastRow.{root_is}
use Rattle.encoding.specs.Rows.{asks}
use Rattle.values.specs.Values.{values_in}
use Rattle.values.proofs.Stores.{length-values_in}
use Rattle.write_steps.specs.Writes.{list_in}
use Rattle.write_steps.proofs.Ends.{root-unwritten, root_ends, root-written}
use Rattle.writing.proofs.write_root.Goals as goal

pub write_row-requires : goal.write_row-requires
write_row-requires c =
    (c.requires.0, rw c.requires.1 (root_is c.args.table.now c.requires.0).starts, c.requires.2)

pub returns-in_err-end : goal.returns-in_err-end
unfolding asks
returns-in_err-end c =
    let a = c.args in
    rw (returned _ c.from_residual.ensures)
    (root-unwritten (asks a.table.now) (list_in a.values.now a.packed.now) a.output.now _ c.write_row.result c.requires.2 (rw c.requires.1 at c.write_row.ensures) _ c.in_err-end.was)

pub finish-requires : goal.finish-requires
unfolding asks
finish-requires c =
    let a = c.args in
    let e = root_ends (asks a.table.now) (list_in a.values.now a.packed.now) a.output.now _ c.write_row.result c.requires.2 (rw c.requires.1 at c.write_row.ensures) _ c.in_ok-end.was in
    let l = c.write_row.auto.output in
    (omega (arith, c.requires.2), omega (arith, e.fits, e.place))

pub returns : goal.returns
unfolding asks
returns c =
    let a = c.args in
    let p = asks a.table.now in
    let list = list_in a.values.now a.packed.now in
    let step = c.write_row.result in
    let writes = rw c.requires.1 at c.write_row.ensures in
    let n : c.count.result ≡ length list = c.count.ensures ∙ sym (length-append a.values.now (values_in a.packed.now) ∙ ap (λ (k : ℕ). length a.values.now + k) (length-values_in a.packed.now)) in
    let f = rw n at c.finish.ensures in
    let r = root-written p list a.output.now _ step c.requires.2 writes _ (root_ends p list a.output.now _ step c.requires.2 writes _ c.in_ok-end.was) _ c.write_row.auto.output
    (c.finish.auto.output ∙ c.write_row.auto.output) (λ i. omega (arith, c.type_inv.output i)) f.1 in
    (f.0 ∙ r.0, r.1)
