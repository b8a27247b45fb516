-- `forward::id_of` meets its contract.
use native.Mathlib.Omega.{arith}
use Rattle.forward.proofs.Fields.{id_is}
use Rattle.forward.proofs.id_of.Goals as goal

pub returns : goal.returns
returns c = omega (arith, id_is c.args.message.now (λ j. (c.type_inv.message j).fits) c.requires)
