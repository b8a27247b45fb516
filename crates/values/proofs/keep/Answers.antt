-- `values::keep` meets its contract. Each slice is as its own function leaves it.
use mathlib.Core.Path.{ap, ◌∙◌}
use lib.ListN.{set}
use mir.Syntax.{w64}
use mir.Facts.{to_z-of_z}
use Rattle.values.specs.Values.{set_value}
use Rattle.values.proofs.keep.Goals as goal

pub returns : goal.returns
returns c =
    let e = to_z-of_z {w = w64} c.ranges.value in (
      c.keep_number.ensures ∙ ap (set c.args.values.now c.args.at) e,
      c.keep_octets.ensures ∙ ap (set_value c.args.octets.now c.args.at) e,
    )
