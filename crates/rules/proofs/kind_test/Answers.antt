-- `rules::kind_test` meets its contract. Each way out is the first part that breaks a rule, and the last that all keep theirs.
use borrow.Author.Tests.{eqb-true}
use native.Mathlib.Omega.{arith}
use mathlib.Core.Path.{refl, sym, ap, ◌∙◌}
use Rattle.std.proofs.Common.{Err}
use Rattle.answer.specs.declared.Reason.TheVariants.{WrongReference}
use Rattle.item.proofs.Returned.{returned, ok_or-Err}
use Rattle.row.specs.Kinds.{length_of, count_of}
use Rattle.row.proofs.ByKind.{least-length, two-apart}
use Rattle.rules.specs.Steps.{spread}
use Rattle.rules.proofs.Steps.{length-broken, row_inside, references_inside, numbers-broken, reference-broken, branch-broken, depth-broken, row-sound}
use Rattle.rules.proofs.kind_test.Goals as goal

pub returns-then-not-length_right : goal.returns-then-not-length_right
returns-then-not-length_right c =
    length-broken (spread c.args.depths.now) c.requires.1 _ refl (sym c.length_right.ensures ∙ c.if-not-length_right.true)

pub count_of-count-requires : goal.count_of-count-requires
count_of-count-requires c =
    let m = count_of c.args.table.now c.args.at c.args.kind in
    let e = eqb-true c.args.size (length_of c.args.kind m) (sym c.length_right.ensures ∙ c.if-not-length_right.false) in
    omega (arith, least-length c.args.kind m c.requires.1.known, c.requires.1.inside)

pub numbers_right-requires : goal.numbers_right-requires
numbers_right-requires c =
    let m = c.count_of-count in
    let long = rw (← m.ensures.0) at (sym c.length_right.ensures ∙ c.if-not-length_right.false) in
    (row_inside (spread c.args.depths.now) c.requires.1 m.result m.ensures.0 long, c.requires.0)

pub returns-then-not-numbers_right : goal.returns-then-not-numbers_right
returns-then-not-numbers_right c =
    let m = c.count_of-count in
    let long = rw (← m.ensures.0) at (sym c.length_right.ensures ∙ c.if-not-length_right.false) in
    numbers-broken (spread c.args.depths.now) c.requires.1 m.result m.ensures.0 long
    (sym c.numbers_right.ensures ∙ c.if-not-numbers_right.true)

pub deepest-requires : goal.deepest-requires
deepest-requires c =
    let m = c.count_of-count in
    let long = rw (← m.ensures.0) at (sym c.length_right.ensures ∙ c.if-not-length_right.false) in
    rw (c.reference_step-step.ensures, c.reference_count-n.ensures)
    (two-apart c.args.kind, references_inside (spread c.args.depths.now) c.requires.1 m.result m.ensures.0 long)

pub returns-in_err-depth : goal.returns-in_err-depth
returns-in_err-depth c =
    let m = c.count_of-count in
    let long = rw (← m.ensures.0) at (sym c.length_right.ensures ∙ c.if-not-length_right.false) in
    let found = rw (c.reference_step-step.ensures, c.reference_count-n.ensures, c.may_reserve-reserved.ensures) at c.deepest.ensures in
    let stray = ok_or-Err c.deepest.result WrongReference (sym c.ok_or.ensures.value ∙ c.in_err-depth.was) in
    returned c.from_residual.result c.from_residual.ensures
    ∙ ap Err (sym stray.1)
    ∙ reference-broken (spread c.args.depths.now) c.requires.1 m.result m.ensures.0 long (sym c.numbers_right.ensures ∙ c.if-not-numbers_right.false)
    (sym found ∙ stray.0)

pub returns-then-depth-least_below : goal.returns-then-depth-least_below
returns-then-depth-least_below c =
    let m = c.count_of-count in
    let long = rw (← m.ensures.0) at (sym c.length_right.ensures ∙ c.if-not-length_right.false) in
    let found = sym (rw (c.reference_step-step.ensures, c.reference_count-n.ensures, c.may_reserve-reserved.ensures) at c.deepest.ensures) in
    branch-broken (spread c.args.depths.now) c.requires.1 m.result m.ensures.0 long (sym c.numbers_right.ensures ∙ c.if-not-numbers_right.false)
    c.in_ok-depth.depth (found ∙ c.in_ok-depth.ensures.ok_part) (omega arith)

pub returns-then-depth-ge-MOST_DEPTH : goal.returns-then-depth-ge-MOST_DEPTH
returns-then-depth-ge-MOST_DEPTH c =
    let m = c.count_of-count in
    let long = rw (← m.ensures.0) at (sym c.length_right.ensures ∙ c.if-not-length_right.false) in
    let found = sym (rw (c.reference_step-step.ensures, c.reference_count-n.ensures, c.may_reserve-reserved.ensures) at c.deepest.ensures) in
    depth-broken (spread c.args.depths.now) c.requires.1 m.result m.ensures.0 long (sym c.numbers_right.ensures ∙ c.if-not-numbers_right.false)
    c.in_ok-depth.depth (found ∙ c.in_ok-depth.ensures.ok_part) (omega arith) (omega arith)

pub returns : goal.returns
returns c =
    let m = c.count_of-count in
    let long = rw (← m.ensures.0) at (sym c.length_right.ensures ∙ c.if-not-length_right.false) in
    let found = sym (rw (c.reference_step-step.ensures, c.reference_count-n.ensures, c.may_reserve-reserved.ensures) at c.deepest.ensures) in
    row-sound (spread c.args.depths.now) c.requires.1 m.result m.ensures.0 long (sym c.numbers_right.ensures ∙ c.if-not-numbers_right.false)
    c.in_ok-depth.depth (found ∙ c.in_ok-depth.ensures.ok_part) (omega arith) (omega arith)
