-- `write_leaf::octets` meets its contract. A length, put by its code, and then that many octets.
-- Assumes nothing.
use mathlib.Core.Path.{◌≡◌}
use native.Mathlib.Omega.{arith}
use borrow.Author.Rules.{rules}
use mir.Syntax.{w64}
use mir.Val.{to_z, of_z}
use Rattle.item.specs.Code.{length_within}
use Rattle.table.proofs.Obeyed.{octets-row}
use Rattle.encoding.proofs.RowItems.{octets_length, items-octets}
use Rattle.item.proofs.Naturals.{held}
use Rattle.item.proofs.Returned.{returned}
use Rattle.write_steps.specs.Writes.{list_in, state_at}
use Rattle.write_steps.proofs.Putting.{Putting, putting, first_missing, first_refused, first_put}
use Rattle.write_leaf.proofs.octets.Goals as goal

pub returns-in_err-value : goal.returns-in_err-value
returns-in_err-value c =
    let pre = c.requires in
    rw (returned _ c.from_residual.ensures) (first_missing _ _ (items-octets c.args.table.now c.args.at pre.0 pre.1 pre.2) c.next_value.result c.next_value.ensures c.in_err-value.was)

pub kind_at-kind-requires : goal.kind_at-kind-requires
kind_at-kind-requires c = omega (arith, (octets-row c.requires.0 c.requires.1 c.requires.2).1)

pub count_at-most-requires : goal.count_at-most-requires
count_at-most-requires c = omega (arith, (octets-row c.requires.0 c.requires.1 c.requires.2).1)

pub returns-in_err-next : goal.returns-in_err-next
unfolding octets_length
returns-in_err-next c =
    let a = c.args in
    let pre = c.requires in
    let code : length_within c.least_length-least.result c.count_at-most.result ≡ octets_length a.table.now a.at =
    rw (c.least_length-least.ensures, c.kind_at-kind.ensures.0, c.count_at-most.ensures.0) in
    let put : Putting (octets_length a.table.now a.at) (list_in a.values.now a.packed.now) (state_at a.cursor a.output.now) c.length-put.new.output c.in_ok-value.value c.moved.result =
    putting _ c.next_value.result c.length-put.result _ _ code c.next_value.ensures c.in_ok-value.was (held c.in_ok-value.value (search rules)) c.length-put.ensures c.moved.ensures in
    rw (returned _ c.from_residual-in_err-next.ensures) (first_refused _ _ (items-octets a.table.now a.at pre.0 pre.1 pre.2) put c.in_err-next.was)

pub returns : goal.returns
unfolding octets_length
returns c =
    let a = c.args in
    let pre = c.requires in
    let code : length_within c.least_length-least.result c.count_at-most.result ≡ octets_length a.table.now a.at =
    rw (c.least_length-least.ensures, c.kind_at-kind.ensures.0, c.count_at-most.ensures.0) in
    let held-value : to_z w64 (of_z w64 c.in_ok-value.value) ≡ c.in_ok-value.value = held c.in_ok-value.value (search rules) in
    let put : Putting (octets_length a.table.now a.at) (list_in a.values.now a.packed.now) (state_at a.cursor a.output.now) c.length-put.new.output c.in_ok-value.value c.moved.result =
    putting _ c.next_value.result c.length-put.result _ _ code c.next_value.ensures c.in_ok-value.was held-value c.length-put.ensures c.moved.ensures in
    (first_put _ _ (items-octets a.table.now a.at pre.0 pre.1 pre.2) put c.in_ok-next.was).complete _ _ (rw (rw held-value at c.count_of-count.ensures) at c.write_octets.ensures)
