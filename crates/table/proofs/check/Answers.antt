-- `table::check` meets its contract. Assumes nothing.
use mathlib.Core.Path.{◌≡◌, sym, ◌∙◌}
use borrow.Author.Rules.{rules}
use Rattle.std.proofs.Common.{Ok}
use Rattle.answer.specs.Numbers.{accepted}
use Rattle.item.proofs.Returned.{returned}
use Rattle.table.proofs.Found.{rows-checked, breaks-checked}
use Rattle.table.proofs.check.Goals as goal

pub returns-in_err-pass : goal.returns-in_err-pass
returns-in_err-pass c =
    returned c.from_residual.result c.from_residual.ensures ∙ breaks-checked c.args.table.now c.in_err-pass.field-0.0 (sym c.pass.ensures.0 ∙ c.in_err-pass.was)

pub returns : goal.returns
returns c =
    let nothing : Ok c.default.result ≡ accepted 0 0 0 = search rules in
    nothing ∙ rows-checked c.args.table.now c.in_ok-pass.field-0 (sym c.pass.ensures.0 ∙ c.in_ok-pass.was)
