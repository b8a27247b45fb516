-- `item::count_of` meets its contract. By the sign of the value.
-- Assumes nothing.
use Rattle.item.proofs.Naturals.{held, negative-natural, natural-cast, natural_fits}
use Rattle.item.proofs.count_of.Goals as goal

pub overflow_cast-result : goal.overflow_cast-result
overflow_cast-result c =
    let fits = c.ranges.value.sfits in
    natural_fits c.args.value _ (held c.args.value fits) fits c.if-value-lt0.false

pub returns-then-value-lt0 : goal.returns-then-value-lt0
returns-then-value-lt0 c = negative-natural c.args.value _ (held c.args.value c.ranges.value.sfits) c.if-value-lt0.true

pub returns-else-value-lt0 : goal.returns-else-value-lt0
returns-else-value-lt0 c = natural-cast c.args.value _ (held c.args.value c.ranges.value.sfits) c.if-value-lt0.false
