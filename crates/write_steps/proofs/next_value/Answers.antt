-- `write_steps::next_value` meets its contract. By the length of the list.
-- Assumes nothing.
use mathlib.Core.Path.{sym, ◌∙◌}
use native.Mathlib.Omega.{arith}
use native.Mathlib.Numerals.{add-one}
use lib.ListN.{length-append}
use Rattle.item.proofs.Naturals.{held}
use Rattle.values.specs.Values.{values_in}
use Rattle.values.proofs.Stores.{length-values_in}
use Rattle.write_steps.proofs.next_value.Goals as goal

pub returns-then-count-index : goal.returns-then-count-index
returns-then-count-index c =
    let a = c.args in
    (omega (arith, c.count.ensures, length-append a.values.now (values_in a.packed.now), length-values_in a.packed.now), c.missing.ensures)

pub returns : goal.returns
returns c =
    let a = c.args in
    let l = length-append a.values.now (values_in a.packed.now) in (
      omega (arith, c.count.ensures, length-values_in a.packed.now),
      sym c.value_at.ensures ∙ sym (held c.value_at.result c.value_at.type_inv),
      add-one a.index,
    )
