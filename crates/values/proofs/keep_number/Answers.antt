-- `values::keep_number` meets its contract. A store past the end is none.
use mathlib.Core.Path.{sym}
use lib.Seq.{set_out}
use Rattle.values.proofs.keep_number.Goals as goal

pub returns-else-at-values : goal.returns-else-at-values
returns-else-at-values c = sym (set_out c.args.values.now c.args.at c.args.value c.if-at-values.false)
