-- `write_begin::choose` meets its contract. An index, put by its code, leaves the row of its branch.
-- Assumes nothing.
use Prim.Native.Nat.{ℕ, ◌+◌}
use mathlib.Core.Path.{◌≡◌, ap}
use native.Mathlib.Omega.{arith}
use borrow.Author.Rules.{rules}
use mir.Syntax.{w64}
use mir.Val.{to_z, of_z}
use Rattle.octets.specs.Numbers.{u16}
use Rattle.item.specs.Code.{index, natural}
use Rattle.item.specs.Answers.{branches_at}
use Rattle.table.proofs.Obeyed.{choice-row}
use Rattle.encoding.proofs.RowItems.{items-choice}
use Rattle.item.proofs.Naturals.{held}
use Rattle.item.proofs.Returned.{returned}
use Rattle.parts.proofs.Choices.{Chosen, chosen}
use Rattle.write_steps.specs.Writes.{list_in, state_at}
use Rattle.write_steps.proofs.Flow.{continues-trans, continues_same}
use Rattle.write_steps.proofs.Putting.{Putting, putting, put-allowed, first_missing, first_refused, first_put}
use Rattle.write_begin.proofs.choose.Goals as goal

pub returns-in_err-value : goal.returns-in_err-value
returns-in_err-value c =
    let pre = c.requires in
    rw (returned _ c.from_residual.ensures)
    (first_missing _ _ (items-choice c.args.table.now c.args.at _ (choice-row pre.0 pre.1 pre.2).is)
    c.next_value.result c.next_value.ensures c.in_err-value.was)

pub count_at-branches-requires : goal.count_at-branches-requires
count_at-branches-requires c = omega (arith, (choice-row c.requires.0 c.requires.1 c.requires.2).inside)

pub index-put-requires : goal.index-put-requires
index-put-requires c =
    let row = choice-row c.requires.0 c.requires.1 c.requires.2 in
    let e = c.count_at-branches.ensures.0 in
    search rules

pub branch_at-requires : goal.branch_at-requires
branch_at-requires c =
    let a = c.args in
    let pre = c.requires in
    let held-value : to_z w64 (of_z w64 c.in_ok-value.value) ≡ c.in_ok-value.value = held c.in_ok-value.value (search rules) in
    let put : Putting (index (branches_at a.table.now (a.at + 6) (u16 a.table.now (a.at + 4)))) (list_in a.values.now a.packed.now) (state_at a.cursor a.output.now) c.index-put.new.output c.in_ok-value.value c.moved.result =
    putting _ c.next_value.result c.index-put.result _ _ (ap (λ (m : ℕ). index (branches_at a.table.now (a.at + 6) m)) c.count_at-branches.ensures.0) c.next_value.ensures c.in_ok-value.was
    held-value c.index-put.ensures c.moved.ensures in
    let count = rw held-value at c.count_of.ensures in
    omega (arith, count, (chosen pre.0 pre.1 pre.2 c.in_ok-value.value (put-allowed put c.in_ok-next.was)).inside)

pub returns : goal.returns
returns c =
    let a = c.args in
    let pre = c.requires in
    let held-value : to_z w64 (of_z w64 c.in_ok-value.value) ≡ c.in_ok-value.value = held c.in_ok-value.value (search rules) in
    let put : Putting (index (branches_at a.table.now (a.at + 6) (u16 a.table.now (a.at + 4)))) (list_in a.values.now a.packed.now) (state_at a.cursor a.output.now) c.index-put.new.output c.in_ok-value.value c.moved.result =
    putting _ c.next_value.result c.index-put.result _ _ (ap (λ (m : ℕ). index (branches_at a.table.now (a.at + 6) m)) c.count_at-branches.ensures.0) c.next_value.ensures c.in_ok-value.was
    held-value c.index-put.ensures c.moved.ensures in
    let branch : Chosen a.table.now a.at (natural c.in_ok-value.value) = chosen pre.0 pre.1 pre.2 c.in_ok-value.value (put-allowed put c.in_ok-next.was) in
    rw (c.branch_at.ensures.0, rw held-value at c.count_of.ensures)
    (branch.back, continues-trans (first_put _ _ (items-choice a.table.now a.at _ (choice-row pre.0 pre.1 pre.2).is) put c.in_ok-next.was) (continues_same branch.same))

pub returns-in_err-next : goal.returns-in_err-next
returns-in_err-next c =
    let a = c.args in
    let pre = c.requires in
    rw (returned _ c.from_residual-in_err-next.ensures)
    (first_refused _ _ (items-choice a.table.now a.at _ (choice-row pre.0 pre.1 pre.2).is)
    (putting _ c.next_value.result c.index-put.result _ _ (ap (λ (m : ℕ). index (branches_at a.table.now (a.at + 6) m)) c.count_at-branches.ensures.0) c.next_value.ensures c.in_ok-value.was
    (held c.in_ok-value.value (search rules)) c.index-put.ensures c.moved.ensures)
    c.in_err-next.was)
