-- `forward::hops_of` meets its contract.
use native.Mathlib.Omega.{arith}
use Rattle.forward.proofs.Fields.{hops-are}
use Rattle.forward.proofs.hops_of.Goals as goal

pub returns : goal.returns
returns c = omega (arith, hops-are c.args.message.now (λ j. (c.type_inv.message j).fits) c.requires)
