-- `loading::store` meets its contract. By the contracts of the copies and of the zeros, and the law of the pieces (Stores.antt).
-- Assumes nothing.
use native.Mathlib.Omega.{arith}
use mathlib.Core.Path.{◌≡◌, ◌∙◌}
use lib.ListN.{length}
use lib.Seq.{length-take-le}
use Rattle.loading.proofs.Stores.{stores, pasted_whole}
use Rattle.loading.proofs.store.Goals as goal

pub returns : goal.returns
returns c =
    let a = c.args in
    let copied : c.copy_octets.new.octets ≡ a.table.now = c.copy_octets.ensures ∙ pasted_whole _ a.table.now (length-take-le (length a.table.now) a.state.now (omega arith)) in
    stores a.state.now a.table.now a.depths.now a.rows a.root c.requires.0 c.requires.1 c.requires.2
    c.copy_octets.new.octets c.fill.new.self c.copy_from_slice.new.self c.copy_from_slice-2.new.self
    copied (c.fill.ensures.after (λ y e. e)) c.copy_from_slice.ensures.after (c.copy_from_slice-2.ensures.after ∙ c.numbers.ensures)
