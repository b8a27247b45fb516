use Prim.Native.Nat.{ℕ, ◌+◌, ◌*◌}
use mathlib.Core.Path.{◌≡◌, refl, ap, ◌∙◌}
use native.Mathlib.Omega.{arith}
use Rattle.bits.specs.Bits.{unpack}
use Rattle.values.specs.Values.{set_value}
use Rattle.read_runs.proofs.Copying.{kept, kept_none, kept_more}
use borrow.Author.Rules.{rules}
use Rattle.read_runs.proofs.packed_fours.Goals as goal

pub loop-done-init : goal.loop-done-init
loop-done-init c =
    let a = c.args in
    (omega arith, refl, kept_none set_value (unpack a.message.now) (8 * a.from + a.into) a.at a.packed.now)

pub loop-done-preserved : goal.loop-done-preserved
loop-done-preserved c =
    let a = c.args in
    let b = unpack a.message.now in
    let start = 8 * a.from + a.into in
    let n = c.loop-done.done in (
      omega arith,
      search rules,
      kept_more set_value b start a.at a.packed.now c.loop-done.packed (4 * n) c.loop-done.invariant.2 4 (4 * (n + 1)) (8 * (a.from + 4 * n) + a.into) _
          (omega arith) (omega arith) c.packed_four.ensures,
    )

pub returns : goal.returns
returns c =
    let a = c.args in
    let all : c.loop-done.done ≡ a.fours = omega arith in
    c.loop-done.invariant.2 ∙ ap (λ (n : ℕ). kept set_value (unpack a.message.now) (8 * a.from + a.into) a.at (4 * n) a.packed.now) all
