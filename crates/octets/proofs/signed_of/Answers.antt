-- `octets::signed_of` meets its contract. The library reads the 32 bits so, and they fit 64.
use mathlib.Core.Path.{◌∙◌}
use mir.Syntax.{w32, w64}
use mir.Facts.{to_z-of_z}
use Rattle.octets.proofs.Numbers.{to_z-signed}
use Rattle.octets.proofs.signed_of.Goals as goal

pub returns : goal.returns
returns c =
    to_z-of_z {w = w64} (record { sfits = c.from.type_inv })
    ∙ c.from.ensures
    ∙ to_z-of_z {w = w32} (record { sfits = c.cast_signed.type_inv })
    ∙ c.cast_signed.ensures
    ∙ to_z-signed c.args.n
