-- `row::Row::low_at` meets its contract. The octets are read as `u32_at` and `signed_of` say.
use Prim.Native.Nat.{◌≤◌}
use mathlib.Core.Path.{ap, ◌∙◌}
use lib.Signed.{mag}
use mir.ValLaws.{to_z-of_z}
use mir.Syntax.{w64}
use Rattle.octets.specs.Numbers.{signed}
use Rattle.octets.proofs.Numbers.{mag-signed}
use Rattle.row.proofs.Row.low_at.Goals as goal

pub returns : goal.returns
returns c =
    let z = c.signed_of.result in
    let held = to_z-of_z w64 z (record { sfits = c.signed_of.type_inv }) in
    let small : mag z ≤ 2147483648 = rw c.signed_of.ensures (mag-signed c.u32_at.result c.u32_at.ensures.1) in
    (held ∙ c.signed_of.ensures ∙ ap signed c.u32_at.ensures.0, rw held small)
