-- `messages::write_lm` meets its contract. What the tests refused; or the table's outcome.
-- Assumes nothing.
use Prim.Native.Nat.{ℕ}
use mathlib.Core.Path.{sym, ap, ◌∙◌}
use lib.ListN.{length}
use Rattle.builtin.specs.Tables.{lm}
use Rattle.builtin.proofs.Tables.{lm-obeys, lm-root}
use mathlib.Core.List.{List, append-nil}
use Rattle.values.specs.Values.{values_in, values_from}
use Rattle.items.specs.Slices.{filled, output_after}
use Rattle.items.specs.Writing.{write_answer}
use Rattle.writing.proofs.Passed.{write-passed}
use Rattle.lm_guard.proofs.ListTests.{list-passed, list-refused}
use Rattle.messages.proofs.write_lm.Goals as goal

pub returns-in-Err : goal.returns-in-Err
returns-in-Err c =
    let a = c.args in
    let n = length a.output.now in
    let told = c.in-Err.is in
    let b = list-refused a.values.now n _ (sym c.lm_list_tested.ensures ∙ told) in
    (b.0, c.clear.ensures ∙ ap (λ (s : List ℕ). filled 0 n s) (sym b.1))

pub write_known-requires : goal.write_known-requires
unfolding lm
write_known-requires c = (lm-obeys, sym lm-root)

pub returns : goal.returns
unfolding lm values_in values_from
returns c =
    let a = c.args in
    let n = length a.output.now in
    let e = write-passed lm a.values.now n lm-obeys ∙ sym (list-passed a.values.now n _ (sym c.lm_list_tested.ensures ∙ c.in_default.is)) in
    let r = rw append-nil at c.write_known.ensures in
    (r.0 ∙ ap write_answer e, r.1 ∙ ap (output_after n) e)
