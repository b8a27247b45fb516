-- `write_begin::begin_counted` meets its contract. A length, put by its code, leaves that many items.
-- Assumes nothing.
use Prim.Native.Nat.{ℕ, ◌+◌}
use mathlib.Core.Path.{◌≡◌, ap}
use mathlib.Core.List.{List}
use native.Mathlib.Omega.{arith}
use borrow.Author.Rules.{rules}
use mir.Syntax.{w64}
use mir.Val.{to_z, of_z}
use Rattle.octets.specs.Numbers.{u16}
use Rattle.rules.specs.Rules.{Obeys, Starts}
use Rattle.item.specs.Code.{length_within, natural}
use Rattle.table.proofs.Obeyed.{earlier-starts, row-starts_inside, counted-row}
use Rattle.items.specs.Items.{ask, times}
use Rattle.encoding.specs.Rows.{items}
use Rattle.encoding.proofs.RowItems.{items-counted}
use Rattle.item.proofs.Naturals.{held}
use Rattle.item.proofs.Returned.{returned}
use Rattle.write_steps.proofs.Putting.{putting, first_missing, first_refused, first_put}
use Rattle.write_begin.proofs.Beginnings.{begins-run}
use Rattle.write_begin.proofs.begin_counted.Goals as goal

-- what the row asks for
asked : {t : List ℕ} {at : ℕ} (obeys : Obeys t) (starts : Starts t at) → u16 t (at + 2) ≡ 4
    → items t at ≡ ask (length_within 0 (u16 t (at + 4))) (λ v. times (natural v) (items t (u16 t (at + 6))))
asked {t} {at} obeys starts kind =
    let row = counted-row obeys starts kind in
    items-counted t at (u16 t (at + 4)) (u16 t (at + 6)) row.0 row.2.1

pub returns-in_err-value : goal.returns-in_err-value
returns-in_err-value c =
    let pre = c.requires in
    rw (returned _ c.from_residual.ensures) (first_missing _ _ (asked pre.0 pre.1 pre.2) c.next_value.result c.next_value.ensures c.in_err-value.was)

pub count_at-most-requires : goal.count_at-most-requires
count_at-most-requires c = omega (arith, (counted-row c.requires.0 c.requires.1 c.requires.2).1)

pub run_at-row-requires : goal.run_at-row-requires
run_at-row-requires c = omega (arith, (counted-row c.requires.0 c.requires.1 c.requires.2).1)

pub returns-in_err-next : goal.returns-in_err-next
returns-in_err-next c =
    let pre = c.requires in
    rw (returned _ c.from_residual-in_err-next.ensures)
    (first_refused _ _ (asked pre.0 pre.1 pre.2)
    (putting _ c.next_value.result c.length-put.result _ _ (ap (length_within 0) c.count_at-most.ensures.0) c.next_value.ensures c.in_ok-value.was
    (held c.in_ok-value.value (search rules)) c.length-put.ensures c.moved.ensures)
    c.in_err-next.was)

pub run_of-requires : goal.run_of-requires
run_of-requires c =
    let row = counted-row c.requires.0 c.requires.1 c.requires.2 in
    rw c.run_at-row.ensures.0 (row-starts_inside c.requires.0 (earlier-starts c.requires.1 row.2)).0

pub returns : goal.returns
returns c =
    let pre = c.requires in
    let held-value : to_z w64 (of_z w64 c.in_ok-value.value) ≡ c.in_ok-value.value = held c.in_ok-value.value (search rules) in
    rw (c.run_of.ensures, rw held-value at c.count_of.ensures, c.run_at-row.ensures.0)
    (begins-run pre.0 c.args.at _ _ pre.1.1 (counted-row pre.0 pre.1 pre.2).2
    (first_put _ _ (asked pre.0 pre.1 pre.2)
    (putting _ c.next_value.result c.length-put.result _ _ (ap (length_within 0) c.count_at-most.ensures.0) c.next_value.ensures c.in_ok-value.was
    held-value c.length-put.ensures c.moved.ensures)
    c.in_ok-next.was))
