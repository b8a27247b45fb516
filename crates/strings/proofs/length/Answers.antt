-- `strings::length` meets its contract. What one octet tells is the length (`told_by_octet`).
-- Assumes nothing.
use mathlib.Core.Path.{sym, ap, ◌∙◌}
use native.Mathlib.Omega.{arith}
use mir.Syntax.{w64}
use mir.Facts.{to_z_pos}
use Rattle.strings.proofs.Lengths.{told_by_octet}
use Rattle.strings.proofs.length.Goals as goal
use Rattle.std.proofs.Common.{Ok}

pub returns-then-octet-lt128 : goal.returns-then-octet-lt128
returns-then-octet-lt128 c =
    let a = c.args in
    let fetches = sym c.fetch-f.ensures ∙ c.in-Some.is in
    ap (λ v. Ok (v, c.in-Some.next)) (to_z_pos w64 {n = c.in-Some.octet} (omega (arith, c.if-octet-lt128.true)))
    ∙ told_by_octet a.message.now a.place.0 a.least a.most fetches c.if-octet-lt128.true c.if-least-octet.true (omega (arith, c.if-octet-lt128.true, c.requires.2))
