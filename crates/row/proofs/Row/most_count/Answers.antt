-- `row::Row::most_count` meets its contract. Each arm is a column of the definition's table, and the last arm has all others.
use borrow.Author.Tests.{ne_eqb}
use Rattle.row.specs.Kinds.{by_kind, most_count}
use Rattle.row.proofs.Bools.{cond_same}
use Rattle.row.proofs.Row.most_count.Goals as goal

pub returns-in_default : goal.returns-in_default
unfolding by_kind most_count
returns-in_default c = simp (ne_eqb _ _ c.in_default.in_default-own.rest.1, ne_eqb _ _ c.in_default.in_default-own.rest.0.1, ne_eqb _ _ c.in_default.in_default-own.rest.0.0.1, ne_eqb _ _ c.in_default.in_default-own.rest.0.0.0.1, ne_eqb _ _ c.in_default.in_default-own.rest.0.0.0.0.1, ne_eqb _ _ c.in_default.in_default-own.rest.0.0.0.0.0.1, cond_same)

pub returns-in-3 : goal.returns-in-3
unfolding by_kind most_count
returns-in-3 c = rw c.in-3.is

pub returns-in-4 : goal.returns-in-4
unfolding by_kind most_count
returns-in-4 c = rw c.in-4.is

pub returns-in-5 : goal.returns-in-5
unfolding by_kind most_count
returns-in-5 c = rw c.in-5.is

pub returns-in-6 : goal.returns-in-6
unfolding by_kind most_count
returns-in-6 c = rw c.in-6.is

pub returns-in-7 : goal.returns-in-7
unfolding by_kind most_count
returns-in-7 c = rw c.in-7.is

pub returns-in-8 : goal.returns-in-8
unfolding by_kind most_count
returns-in-8 c = rw c.in-8.is
