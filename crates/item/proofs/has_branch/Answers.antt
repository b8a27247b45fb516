-- `item::has_branch` meets its contract. A branch past the last is not there, and another is there unless its reference is
-- that of a reserved one.
use borrow.Author.Rules.{rules}
use mathlib.Core.Bool.{not}
use mathlib.Core.Path.{sym, ap, ◌∙◌}
use lib.Dec.{eqb}
use Rattle.item.proofs.Branches.{branch_past, branch_is}
use Rattle.item.proofs.has_branch.Goals as goal

pub returns-then-m-i : goal.returns-then-m-i
returns-then-m-i c =
    let a = c.args in
    sym (branch_past a.table.now a.from a.m a.i c.if-m-i.true)

pub overflow_mul-i : goal.overflow_mul-i
overflow_mul-i c = search rules

pub overflow_add-from : goal.overflow_add-from
overflow_add-from c = search rules

pub u16_at-requires : goal.u16_at-requires
u16_at-requires c = search rules

pub returns : goal.returns
returns c =
    let a = c.args in
    ap (λ r. not (eqb r 65535)) c.u16_at.ensures.0
    ∙ sym (branch_is a.table.now a.from a.m a.i c.if-m-i.false)
