-- `row::Row::count_of` meets its contract. A kind with a count has room for it.
use native.Mathlib.Omega.{arith}
use mathlib.Core.Path.{sym, ◌∙◌}
use Rattle.row.specs.Kinds.{count_of}
use Rattle.row.proofs.ByKind.{count_inside}
use Rattle.row.proofs.Row.count_of.Goals as goal

pub count_at-requires : goal.count_at-requires
count_at-requires c =
    omega (arith, count_inside c.args.kind (sym c.has_count.ensures ∙ c.if-has_count.true))

pub returns-then-has_count : goal.returns-then-has_count
unfolding count_of
returns-then-has_count c = (rw (sym c.has_count.ensures ∙ c.if-has_count.true) c.count_at.ensures.0, c.count_at.ensures.1)

pub returns-else-has_count : goal.returns-else-has_count
unfolding count_of
returns-else-has_count c = (rw (sym c.has_count.ensures ∙ c.if-has_count.false), omega arith)
