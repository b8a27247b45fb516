-- `read_leaf::octets` meets its contract. A length, read and kept; then the octets.
-- Assumes nothing.
use Prim.Native.Nat.{ℕ, ◌+◌}
use mathlib.Core.Path.{◌≡◌, refl}
use mathlib.Core.List.{List}
use native.Mathlib.Omega.{arith}
use Rattle.octets.specs.Numbers.{u16}
use Rattle.row.specs.Kinds.{least_length}
use Rattle.item.specs.Code.{length_within}
use Rattle.encoding.proofs.RowItems.{octets_length}
use Rattle.read_steps.proofs.Keeping.{keeping-value, count-held, item-refused, first_refused, first-kept}
use borrow.Author.Rules.{rules}
use Rattle.answer.proofs.Exits.{exit}
use Rattle.read_leaf.proofs.octets.Goals as goal

-- the length that is read is the row's
length-asked : (t : List ℕ) (at : ℕ) {kind least most : ℕ} → kind ≡ u16 t (at + 2) → least ≡ least_length kind → most ≡ u16 t (at + 4)
    → length_within least most ≡ octets_length t at
unfolding octets_length
length-asked t at k l m = rw (l, k, m)

pub kind_at-kind-requires : goal.kind_at-kind-requires
kind_at-kind-requires c = omega arith

pub returns-in_err-length : goal.returns-in_err-length
unfolding octets_length
returns-in_err-length c =
    let a = c.args in
    let asked = length-asked a.table.now a.at c.kind_at-kind.ensures.0 c.least_length-least.ensures c.count_at-most.ensures.0 in
    rw (exit _ c.from_residual.ensures.1) (item-refused (octets_length a.table.now a.at) _ refl _ asked c.length.ensures c.in_err-length.was)

pub returns-in_err-next : goal.returns-in_err-next
unfolding octets_length
returns-in_err-next c =
    let a = c.args in
    let asked = length-asked a.table.now a.at c.kind_at-kind.ensures.0 c.least_length-least.ensures c.count_at-most.ensures.0 in
    let kept = keeping-value _ asked (search rules) c.length.ensures c.in_ok-length.was c.keep.ensures in
    rw (exit _ c.from_residual-in_err-next.ensures.1) (first_refused (octets_length a.table.now a.at) _ refl kept c.in_err-next.was)

pub returns : goal.returns
unfolding octets_length
returns c =
    let a = c.args in
    let asked = length-asked a.table.now a.at c.kind_at-kind.ensures.0 c.least_length-least.ensures c.count_at-most.ensures.0 in
    let kept = keeping-value _ asked (search rules) c.length.ensures c.in_ok-length.was c.keep.ensures in
    let first = first-kept (octets_length a.table.now a.at) _ refl kept c.in_ok-next.was in
    first.complete _ _ _ (rw (count-held c.in_ok-length.length (search rules) c.count_of-count.ensures) at c.read_octets.ensures)
