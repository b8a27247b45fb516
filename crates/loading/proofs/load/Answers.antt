-- `loading::load` meets its contract. By those of the pass over the table and of the stores, and by what the pass found (Loads.antt).
-- Assumes nothing.
use borrow.Author.Rules.{rules}
use mathlib.Core.Path.{◌≡◌, sym, ◌∙◌}
use Rattle.std.proofs.Common.{Ok}
use Rattle.answer.specs.Numbers.{accepted}
use Rattle.item.proofs.Returned.{returned}
use Rattle.table.proofs.Found.{rows-checked, breaks-checked}
use Rattle.loading.proofs.Loads.{rows-passed, rows-most, rows-loaded, breaks_kept}
use Rattle.loading.proofs.load.Goals as goal

pub returns-in_err-found : goal.returns-in_err-found
returns-in_err-found c =
    let a = c.args in
    let is = sym c.pass.ensures.0 ∙ c.in_err-found.was in (
      returned c.from_residual.result c.from_residual.ensures ∙ breaks-checked a.table.now c.in_err-found.field-0.0 is,
      breaks_kept a.state.now a.table.now c.in_err-found.field-0.0 is,
    )

pub store-requires : goal.store-requires
store-requires c =
    let a = c.args in
    (search rules, rows-most a.state.now a.table.now c.in_ok-found.found (sym c.pass.ensures.0 ∙ c.in_ok-found.was), search rules)

pub returns : goal.returns
returns c =
    let st = c.args.state.now in
    let t = c.args.table.now in
    let is = sym c.pass.ensures.0 ∙ c.in_ok-found.was in
    let nothing : Ok c.default.result ≡ accepted 0 0 0 = search rules in (
      nothing ∙ rows-checked t c.in_ok-found.found is,
      rows-loaded st t c.in_ok-found.found is c.pass.new.depths c.store.new.state (c.pass.ensures.1 (rows-passed st t c.in_ok-found.found is)) c.store.ensures,
    )
