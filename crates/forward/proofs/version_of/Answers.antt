-- `forward::version_of` meets its contract.
use native.Mathlib.Omega.{arith}
use Rattle.forward.proofs.Fields.{version_is}
use Rattle.forward.proofs.version_of.Goals as goal

pub returns : goal.returns
returns c = omega (arith, version_is c.args.message.now (λ j. (c.type_inv.message j).fits) c.requires)
