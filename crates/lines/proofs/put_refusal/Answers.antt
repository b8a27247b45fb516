-- `lines::put_refusal` meets its contract.
use Rattle.lines.specs.Text.{refused_line}
use Rattle.lines.proofs.put_refusal.Goals as goal

pub returns-clause-appended : goal.returns-clause-appended
unfolding refused_line
returns-clause-appended c = rw c.from.ensures at c.put_placed.ensures.appended
