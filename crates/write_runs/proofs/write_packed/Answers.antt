use Prim.Native.Nat.{◌+◌, ◌*◌}
use mathlib.Core.Path.{◌≡◌, refl, ◌∙◌}
use native.Mathlib.Omega.{arith}
use borrow.Author.Rules.{rules}
use lib.IntN.{pos}
use lib.ListN.{get_or}
use mir.Syntax.{w64}
use mir.Facts.{to_z-of_z}
use Rattle.values.specs.Values.{values_in}
use Rattle.write_runs.proofs.Putting.{octet-fits, octet-not, puts_none, puts_one}
use Rattle.write_runs.proofs.write_packed.Goals as goal

pub loop-done-init : goal.loop-done-init
loop-done-init c =
    let a = c.args in
    let start : a.at + 0 ≡ a.at = omega arith in
    (omega arith, refl, puts_none (values_in a.packed.now) a.index a.output.now (8 * a.at + a.into), λ h. rw start c.octet-last.ensures.0)

pub returns-in_default : goal.returns-in_default
returns-in_default c =
    let a = c.args in
    let v = get_or (values_in a.packed.now) (a.index + c.loop-done.done) (pos 0) in
    let e = to_z-of_z {w = w64} (record { sfits = c.value_in.type_inv }) ∙ c.value_in.ensures in
    let i = c.loop-done.invariant in
    (i.0, λ h. octet-not v (rw e at c.in_default.ensures), i.2)

pub loop-done-preserved : goal.loop-done-preserved
loop-done-preserved c =
    let a = c.args in
    let next : a.at + c.loop-done.done + 1 ≡ a.at + (c.loop-done.done + 1) = omega arith in
    let at = 8 * (a.at + c.loop-done.done) + a.into in
    let v = get_or (values_in a.packed.now) (a.index + c.loop-done.done) (pos 0) in
    let e = to_z-of_z {w = w64} (record { sfits = c.value_in.type_inv }) ∙ c.value_in.ensures in
    let h = rw e at c.in-Ok.ensures in (
      omega arith,
      search rules,
      puts_one (values_in a.packed.now) a.index a.output.now (8 * a.at + a.into) c.loop-done.output c.put_octet-last.new.output c.loop-done.done at v c.loop-done.invariant.2
          refl (octet-fits v h.0) (omega arith) (omega arith) (rw h.1 at c.put_octet-last.ensures.0),
      λ h. rw (← next) (c.put_octet-last.ensures.1 h),
    )

pub returns : goal.returns
returns c =
    let all : c.loop-done.done ≡ c.args.count = omega arith in
    let i = rw all at c.loop-done.invariant in
    (i.0, λ h. absurd (omega (arith, h)), i.2)
