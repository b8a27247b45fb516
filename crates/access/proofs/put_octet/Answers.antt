-- `access::put_octet` meets its contract. Its bits are replaced in the two octets that it lies across; where it begins with an
-- octet, it replaces that one (`set-octet`).
use native.Mathlib.Omega.{arith}
use mathlib.Core.Path.{◌≡◌}
use Prim.Native.Nat.{◌+◌, ◌-◌, ◌*◌}
use Rattle.bits.proofs.Octets.{set-octet}
use Rattle.access.proofs.put_octet.Goals as goal

pub returns-then-into-eq0 : goal.returns-then-into-eq0
returns-then-into-eq0 c =
    let a = c.args in
    let whole : 8 * a.at + a.into ≡ 8 * a.at = omega arith in
    (rw whole (set-octet a.output.now a.at (omega arith) a.octet), λ h. absurd (omega (arith, h)))

pub returns : goal.returns
returns c =
    let a = c.args in
    let place : 8 * a.at + (16 - (8 - a.into) - 8) ≡ 8 * a.at + a.into = omega arith in
    (rw (← place) (rw c.from.ensures at c.replace_in_pair.ensures.0), λ h. c.replace_in_pair.ensures.1)
