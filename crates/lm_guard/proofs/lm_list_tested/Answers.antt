-- `lm_guard::lm_list_tested` meets its contract. Each test as it is made.
-- Assumes nothing.
use mathlib.Core.Bool.{false}
use mathlib.Core.Path.{◌≡◌, ap, ◌∙◌}
use lib.Dec.{leb}
use lib.IntN.{pos}
use lib.ListN.{get_or}
use borrow.Author.Rules.{rules}
use Rattle.std.proofs.Common.{Ok, Err}
use Rattle.answer.specs.Numbers.{accepted}
use Rattle.item.specs.Code.{of_natural}
use Rattle.lm_guard.proofs.ListTests.{version-three, version_other, subtype-negative, subtype-high, subtype-fine, list-short, list-version, list-subtype, list-fine}
use Rattle.lm_guard.proofs.lm_list_tested.Goals.{then-subtype-lt0-via-then-subtype-lt0, then-subtype-lt0-via-else-subtype-lt0+then-subtype-gt2}
use Rattle.lm_guard.proofs.lm_list_tested.Goals as goal

pub returns-in_default : goal.returns-in_default
returns-in_default c = ap Err c.at_place.ensures ∙ list-short c.args.values.now c.in_default.len_below

pub returns-then-version-ne3 : goal.returns-then-version-ne3
returns-then-version-ne3 c =
    let vs = c.args.values.now in
    ap Err c.at_place-then-version-ne3.ensures ∙ list-version vs c.in-len3-up.len_at_least (version_other (get_or vs 2 (pos 0)) (search rules) c.if-version-ne3.true)

pub returns-then-subtype-lt0 : goal.returns-then-subtype-lt0
returns-then-subtype-lt0 c =
    let vs = c.args.values.now in
    let none : of_natural (λ n. leb n 2) (get_or vs 0 (pos 0)) ≡ false =
    elim c.then-subtype-lt0.branch [
      | then-subtype-lt0-via-then-subtype-lt0 w ↦ subtype-negative (get_or vs 0 (pos 0)) (search rules) w.if-subtype-lt0.true
      | then-subtype-lt0-via-else-subtype-lt0+then-subtype-gt2 w ↦ subtype-high (get_or vs 0 (pos 0)) (search rules) w.if-subtype-gt2.true
    ] in
    ap Err c.at_place-then-subtype-lt0.ensures ∙ list-subtype vs c.in-len3-up.len_at_least (version-three (get_or vs 2 (pos 0)) (search rules) c.if-version-ne3.false) none

pub returns : goal.returns
returns c =
    let vs = c.args.values.now in
    let nothing : Ok c.default.result ≡ accepted 0 0 0 = search rules in
    nothing
    ∙ list-fine vs c.in-len3-up.len_at_least (version-three (get_or vs 2 (pos 0)) (search rules) c.if-version-ne3.false)
    (subtype-fine (get_or vs 0 (pos 0)) (search rules) c.if-subtype-lt0.false c.if-subtype-gt2.false)
