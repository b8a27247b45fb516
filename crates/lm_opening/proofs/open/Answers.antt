-- `lm_opening::open` meets its contract. By the section.
-- Assumes nothing.
use native.Mathlib.Omega.{arith}
use Rattle.read_steps.proofs.Flow.{continues_same}
use Rattle.lm_opening.proofs.Branches.{content-asks}
use Rattle.lm_opening.proofs.open.Goals as goal

pub returns-in-Content : goal.returns-in-Content
returns-in-Content c =
    rw c.in-Content.is (continues_same content-asks, omega arith, c.requires.1)
