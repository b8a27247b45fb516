use Prim.Native.Nat.{ℕ, ◌+◌, ◌*◌, ◌/◌}
use mathlib.Core.Path.{◌≡◌, refl, ap, ◌∙◌}
use native.Mathlib.Omega.{arith}
use Rattle.bits.specs.Bits.{unpack}
use Rattle.values.specs.Values.{set_value}
use Rattle.values.proofs.Stores.{set_value-out}
use Rattle.read_runs.proofs.Copying.{octet_is, kept, kept_one, kept_all}
use borrow.Author.Rules.{rules}
use Rattle.read_runs.proofs.read_packed.Goals as goal

pub loop-done-init : goal.loop-done-init
loop-done-init c = (omega arith, refl, λ lent e. e)

pub loop-done-preserved : goal.loop-done-preserved
loop-done-preserved c =
    let a = c.args in
    let b = unpack a.message.now in
    let start = 8 * a.from + a.into in
    let v = octet_is b (8 * (a.from + c.loop-done.done) + a.into) (start + 8 * c.loop-done.done) c.octet_at-octet.result c.octet_at-octet.ensures (omega arith) in (
      omega arith,
      search rules,
      λ lent e. c.store_value.ensures ∙ kept_one set_value b start a.at lent c.loop-done.packed c.loop-done.done (c.loop-done.invariant.2 lent e) _ v,
    )

pub returns : goal.returns
returns c =
    let a = c.args in
    let b = unpack a.message.now in
    let start = 8 * a.from + a.into in
    let n = c.fitting-fit.result / 4 in
    let turned : 4 * n ≡ n * 4 = omega arith in
    kept_all set_value b start a.at a.packed.now c.loop-done.packed c.loop-done.done
    (c.loop-done.invariant.2 a.packed.now (c.packed_fours.ensures ∙ ap (λ (k : ℕ). kept set_value b start a.at k a.packed.now) turned)) a.count
    c.loop-done.invariant.0
    (λ more j v h. set_value-out c.loop-done.packed j v (omega arith))
