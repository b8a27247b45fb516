-- `reading::read_message` meets its contract. The root from place 0 on; then the close.
-- Assumes nothing.
use Rattle.table.specs.Root.{root}
use Rattle.table.proofs.LastRow.{root_is}
use Rattle.guard.proofs.Readable.{asks-table, readable-table, tested-table}
use Rattle.encoding.specs.Rows.{asks}
use Rattle.read_steps.proofs.Roots.{root-refused, root-read}
use Rattle.answer.proofs.Exits.{exit}
use Rattle.reading.proofs.read_message.Goals as goal

pub read_row-requires : goal.read_row-requires
read_row-requires c =
    (readable-table c.requires.0 (rw c.requires.1 (root_is c.args.table.now c.requires.0).starts), tested-table c.args.table.now c.args.at c.requires.0.most, c.requires.3)

pub returns-in_err-end : goal.returns-in_err-end
unfolding asks
returns-in_err-end c =
    let a = c.args in
    let t = a.table.now in
    rw (exit _ c.from_residual.ensures.1)
    (root-refused (asks t) a.message.now a.room a.values.now _ a.packed.now _ c.read_row.result c.requires.2 (rw (c.requires.1, asks-table t (root t) c.requires.0.most) at c.read_row.ensures) _ c.in_err-end.was)

pub close-requires : goal.close-requires
unfolding asks
close-requires c =
    let a = c.args in
    let t = a.table.now in
    (c.requires.3, (root-read (asks t) a.message.now a.room a.values.now _ a.packed.now _ c.read_row.result c.requires.2 (rw (c.requires.1, asks-table t (root t) c.requires.0.most) at c.read_row.ensures) _ c.in_ok-end.was).0)

pub returns : goal.returns
unfolding asks
returns c =
    let a = c.args in
    let t = a.table.now in
    rw c.close.ensures
    (root-read (asks t) a.message.now a.room a.values.now _ a.packed.now _ c.read_row.result c.requires.2 (rw (c.requires.1, asks-table t (root t) c.requires.0.most) at c.read_row.ensures) _ c.in_ok-end.was).1
