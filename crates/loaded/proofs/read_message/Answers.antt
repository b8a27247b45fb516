-- `loaded::read_message` meets its contract. The root from place 0 on; then the close.
-- Assumes nothing.
use Rattle.encoding.specs.Guarded.{guarded_root}
use Rattle.loading.specs.State.{held_root}
use Rattle.read_steps.proofs.Roots.{root-refused, root-read}
use Rattle.answer.proofs.Exits.{exit}
use Rattle.loaded.proofs.read_message.Goals as goal

pub returns-in_err-end : goal.returns-in_err-end
returns-in_err-end c =
    let a = c.args in
    let st = a.state.now in
    rw (exit _ c.from_residual.ensures.1)
    (root-refused (guarded_root st (held_root st)) a.message.now a.room a.values.now _ a.packed.now _ c.read_root.result c.requires.1 c.read_root.ensures _ c.in_err-end.was)

pub close-requires : goal.close-requires
close-requires c =
    let a = c.args in
    let st = a.state.now in
    (c.requires.2, (root-read (guarded_root st (held_root st)) a.message.now a.room a.values.now _ a.packed.now _ c.read_root.result c.requires.1 c.read_root.ensures _ c.in_ok-end.was).0)

pub returns : goal.returns
returns c =
    let a = c.args in
    let st = a.state.now in
    rw c.close.ensures
    (root-read (guarded_root st (held_root st)) a.message.now a.room a.values.now _ a.packed.now _ c.read_root.result c.requires.1 c.read_root.ensures _ c.in_ok-end.was).1
