-- `lm_guard::lm_tested` meets its contract. Each test as it is made.
-- Assumes nothing.
use mathlib.Core.Path.{◌≡◌, sym, ap, ◌∙◌}
use native.Mathlib.Omega.{arith}
use borrow.Author.Rules.{rules}
use Rattle.std.proofs.Common.{Ok, Err}
use Rattle.answer.specs.Numbers.{accepted}
use Rattle.bits.proofs.Access.{fetched-Short, fetched-Bits}
use Rattle.item.proofs.Returned.{returned, ok_or-Err}
use Rattle.lm_guard.proofs.Tests.{tested-long, tested-empty, tested-version, tested-subtype, tested-fine}
use Rattle.lm_guard.proofs.lm_tested.Goals as goal

pub returns-then-message-gt-MOST : goal.returns-then-message-gt-MOST
returns-then-message-gt-MOST c = ap Err c.at_place.ensures ∙ tested-long c.args.message.now c.if-message-gt-MOST.true

pub returns-in_err-version : goal.returns-in_err-version
returns-in_err-version c =
    let m = c.args.message.now in
    let short = ok_or-Err c.fetch.result c.at_place-ends.result (sym c.ok_or.ensures.value ∙ c.in_err-version.was) in
    returned c.from_residual.result c.from_residual.ensures
    ∙ ap Err (sym short.1 ∙ c.at_place-ends.ensures)
    ∙ tested-empty m c.if-message-gt-MOST.false (omega (arith, fetched-Short m 5 3 (sym c.fetch.ensures ∙ short.0)))

pub returns-then-version-ne3 : goal.returns-then-version-ne3
returns-then-version-ne3 c =
    let m = c.args.message.now in
    let v = fetched-Bits m 5 3 _ _ (sym c.fetch.ensures ∙ c.in_ok-version.ensures.ok_part) in
    ap Err c.at_place-then-version-ne3.ensures ∙ tested-version m c.if-message-gt-MOST.false (omega (arith, v.0)) _ v.1 c.if-version-ne3.true

pub returns-then-subtype-gt2 : goal.returns-then-subtype-gt2
returns-then-subtype-gt2 c =
    let m = c.args.message.now in
    let v = fetched-Bits m 5 3 _ _ (sym c.fetch.ensures ∙ c.in_ok-version.ensures.ok_part) in
    let u = fetched-Bits m 0 4 _ _ (sym c.fetch-2.ensures ∙ c.in_ok-subtype.ensures.ok_part) in
    ap Err c.at_place-then-subtype-gt2.ensures ∙ tested-subtype m c.if-message-gt-MOST.false (omega (arith, v.0)) _ v.1 c.if-version-ne3.false _ u.1 c.if-subtype-gt2.true

pub returns : goal.returns
returns c =
    let m = c.args.message.now in
    let v = fetched-Bits m 5 3 _ _ (sym c.fetch.ensures ∙ c.in_ok-version.ensures.ok_part) in
    let u = fetched-Bits m 0 4 _ _ (sym c.fetch-2.ensures ∙ c.in_ok-subtype.ensures.ok_part) in
    let nothing : Ok c.default.result ≡ accepted 0 0 0 = search rules in
    nothing ∙ tested-fine m c.if-message-gt-MOST.false (omega (arith, v.0)) _ v.1 c.if-version-ne3.false _ u.1 c.if-subtype-gt2.false
