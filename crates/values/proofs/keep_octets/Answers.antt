-- `values::keep_octets` meets its contract. Where not all eight octets are there, nothing is stored.
use mathlib.Core.Path.{sym, ap, ◌∙◌}
use native.Mathlib.Omega.{arith}
use mir.Syntax.{w64}
use mir.Facts.{to_z-of_z}
use Rattle.values.specs.Values.{set_value}
use Rattle.values.proofs.Stores.{set_value-out}
use Rattle.values.proofs.keep_octets.Goals as goal

pub returns-then-at-octets : goal.returns-then-at-octets
returns-then-at-octets c =
    c.store_value.ensures ∙ ap (set_value c.args.octets.now c.args.at) (to_z-of_z {w = w64} c.ranges.value)

pub returns-else-at-octets : goal.returns-else-at-octets
returns-else-at-octets c =
    sym (set_value-out c.args.octets.now c.args.at c.args.value (omega arith))
