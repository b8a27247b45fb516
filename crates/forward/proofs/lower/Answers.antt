-- `forward::lower` meets its contract.
use Rattle.forward.proofs.Fields.{some_hops, lowers}
use Rattle.forward.proofs.lower.Goals as goal

pub overflow_sub-output : goal.overflow_sub-output
overflow_sub-output c = some_hops c.args.message.now (λ j. (c.type_inv.message j).fits) c.requires.0 c.requires.1

pub returns : goal.returns
returns c =
    rw (c.clear.ensures, c.copy_octets.ensures)
    (lowers c.args.message.now (λ j. (c.type_inv.message j).fits) c.requires.0 c.requires.1 c.args.output.now c.requires.2)
