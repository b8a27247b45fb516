-- `loaded::read_octets` meets its contract. The outcome kept, and zeros after it.
-- Assumes nothing.
use Prim.Native.Nat.{◌*◌, ◌/◌}
use mathlib.Core.Path.{◌≡◌, ap, ◌∙◌}
use native.Mathlib.Omega.{arith}
use lib.ListN.{length}
use Rattle.items.specs.Reading.{read_values}
use Rattle.read_steps.specs.Ends.{kept_count}
use Rattle.read_steps.proofs.Settled.{count-is, settled-packed}
use Rattle.loading.specs.State.{through_state}
use Rattle.loaded.proofs.Through.{through_fits}
use Rattle.loaded.proofs.read_octets.Goals as goal

-- the values kept fit the octets

pub overflow_mul-kept : goal.overflow_mul-kept
overflow_mul-kept c =
    let kept : let a = c.args in
    c.kept_count-kept.result ≡ length (read_values (through_state a.state.now a.message.now (length a.packed.now / 8))) = let a = c.args in
    c.kept_count-kept.ensures ∙ ap kept_count c.read_either-answer.ensures.0 ∙ count-is (through_state a.state.now a.message.now (length a.packed.now / 8)) in
    let a = c.args in
    let k = kept in
    omega (arith, k, through_fits a.state.now a.message.now (length a.packed.now / 8))

pub clear-requires : goal.clear-requires
clear-requires c =
    let kept : let a = c.args in
    c.kept_count-kept.result ≡ length (read_values (through_state a.state.now a.message.now (length a.packed.now / 8))) = let a = c.args in
    c.kept_count-kept.ensures ∙ ap kept_count c.read_either-answer.ensures.0 ∙ count-is (through_state a.state.now a.message.now (length a.packed.now / 8)) in
    let a = c.args in
    let k = kept in
    omega (arith, k, through_fits a.state.now a.message.now (length a.packed.now / 8), c.read_either-answer.auto.packed)

pub returns : goal.returns
returns c =
    let kept : let a = c.args in
    c.kept_count-kept.result ≡ length (read_values (through_state a.state.now a.message.now (length a.packed.now / 8))) = let a = c.args in
    c.kept_count-kept.ensures ∙ ap kept_count c.read_either-answer.ensures.0 ∙ count-is (through_state a.state.now a.message.now (length a.packed.now / 8)) in
    let a = c.args in
    let n = length a.packed.now / 8 in
    let o = through_state a.state.now a.message.now n in
    let k = kept in
    let k8 : c.kept_count-kept.result * 8 ≡ 8 * length (read_values o) = omega (arith, k) in
    (c.read_either-answer.ensures.0, c.clear.ensures ∙ rw k8 (settled-packed o a.packed.now _ (omega (arith, through_fits a.state.now a.message.now n)) c.read_either-answer.auto.packed c.read_either-answer.ensures.2))
