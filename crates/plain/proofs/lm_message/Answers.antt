-- `plain::lm_message` meets its contract. What the tests refused; or the sections and the close, whose items are the table's.
-- Assumes nothing.
use Prim.Native.Nat.{ℕ}
use mathlib.Core.Path.{◌≡◌, refl, sym, ap, ◌∙◌}
use mathlib.Core.List.{List}
use Rattle.std.proofs.Common.{Ok}
use Rattle.answer.proofs.Exits.{exit}
use Rattle.answer.specs.declared.Counts.{Counts}
use Rattle.items.specs.Reading.{decode}
use Rattle.read_steps.proofs.Roots.{root-refused, root-read}
use Rattle.lm.specs.ByName.{read_lm_outcome}
use Rattle.lm_guard.specs.Tested.{lm_tested}
use Rattle.lm_guard.proofs.Tests.{fine, unfit}
use Rattle.lm_items.specs.Asked.{asked}
use Rattle.lm_items.specs.declared.Section.TheVariants.{Network}
use Rattle.lm_items.proofs.Same.{same_items}
use Rattle.plain.proofs.lm_message.Goals as goal

-- the outcome of what passed the tests, without a table
outcome-is : (m : List ℕ) (room : ℕ) {counts : Counts} → lm_tested m ≡ Ok counts → read_lm_outcome m room ≡ decode (asked Network) m room
outcome-is m room e = (fine m room _ e).outcome ∙ ap (λ p. decode p m room) same_items.same

pub returns-in_err-lm_tested : goal.returns-in_err-lm_tested
returns-in_err-lm_tested c =
    let a = c.args in
    rw (unfit a.message.now a.room _ (sym c.lm_tested.ensures ∙ c.in_err-lm_tested.was)) (exit _ c.from_residual.ensures.1, tt, tt)

pub read_sections-requires : goal.read_sections-requires
read_sections-requires c =
    let a = c.args in
    ((fine a.message.now a.room _ (sym c.lm_tested.ensures ∙ c.in_ok-lm_tested.was)).most, refl)

pub returns-in_err-end : goal.returns-in_err-end
returns-in_err-end c =
    let a = c.args in
    let m = a.message.now in
    let tested = sym c.lm_tested.ensures ∙ c.in_ok-lm_tested.was in
    rw (exit _ c.from_residual-in_err-end.ensures.1, outcome-is m a.room tested)
    (root-refused (asked Network) m a.room a.values.now _ a.packed.now _ _ (fine m a.room _ tested).some c.in_err-end.ensures _ refl)

pub close-requires : goal.close-requires
close-requires c =
    let a = c.args in
    let m = a.message.now in
    let passed = fine m a.room _ (sym c.lm_tested.ensures ∙ c.in_ok-lm_tested.was) in
    (passed.most, (root-read (asked Network) m a.room a.values.now _ a.packed.now _ _ passed.some c.in_ok-end.ensures _ refl).0)

pub returns : goal.returns
returns c =
    let a = c.args in
    let m = a.message.now in
    let tested = sym c.lm_tested.ensures ∙ c.in_ok-lm_tested.was in
    rw (c.close.ensures, outcome-is m a.room tested)
    (root-read (asked Network) m a.room a.values.now _ a.packed.now _ _ (fine m a.room _ tested).some c.in_ok-end.ensures _ refl).1
