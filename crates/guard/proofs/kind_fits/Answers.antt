-- `guard::kind_fits` meets its contract. Its end, then its count between two bounds.
-- Assumes nothing.
use native.Mathlib.Omega.{arith}
use mathlib.Core.Path.{sym, ap, ◌∙◌}
use lib.Dec.{leb}
use Rattle.row.specs.Kinds.{least_count, most_count}
use Rattle.row.proofs.Bools.{below_within}
use Rattle.guard.proofs.Laws.{length_most, within_most, long-unfit, fits_counted}
use Rattle.guard.proofs.kind_fits.Goals as goal

pub count_of-count-requires : goal.count_of-count-requires
count_of-count-requires c = omega (arith, length_most c.args.kind 0)

pub overflow_add-at : goal.overflow_add-at
overflow_add-at c = omega (arith, c.length.ensures, length_most c.args.kind c.count_of-count.result, c.count_of-count.ensures.1)

pub returns-then-at-length-gt-MOST_TABLE : goal.returns-then-at-length-gt-MOST_TABLE
returns-then-at-length-gt-MOST_TABLE c =
    let a = c.args in
    long-unfit a.state.now a.at a.kind c.count_of-count.result c.count_of-count.ensures.0 (omega (arith, c.length.ensures))

pub returns-then-count-least_count : goal.returns-then-count-least_count
returns-then-count-least_count c =
    let a = c.args in
    sym (below_within (least_count a.kind) (most_count a.kind) c.count_of-count.result (omega (arith, c.least_count.ensures)))
    ∙ fits_counted a.state.now a.at a.kind c.count_of-count.result c.count_of-count.ensures.0 c.requires.1 c.requires.2 (omega (arith, c.length.ensures))

pub returns : goal.returns
returns c =
    let a = c.args in
    ap (leb c.count_of-count.result) c.most_count.ensures
    ∙ sym (within_most (least_count a.kind) (most_count a.kind) c.count_of-count.result (omega (arith, c.least_count.ensures, c.if-count-least_count.false)))
    ∙ fits_counted a.state.now a.at a.kind c.count_of-count.result c.count_of-count.ensures.0 c.requires.1 c.requires.2 (omega (arith, c.length.ensures, c.if-at-length-gt-MOST_TABLE.false))
