-- `values::value_in` meets its contract. Eight octets spell the value in two's complement.
use Rattle.std.proofs.Common.{◌*◌, ◌∙◌, ap, sym, arith, to_z, w64}
use mir.Facts.{to_z-of_z}
use Rattle.values.proofs.Complement.{uncomplement-to_z}
use Rattle.values.proofs.LittleEndian.{from_le_bytes-little_number}
use Rattle.values.proofs.Stores.{get_d_values_in}
use Rattle.values.proofs.value_in.Goals as goal

pub returns : goal.returns
returns c =
    let o = c.args.octets.now in
    let at = c.args.at in
    to_z-of_z {w = w64} (record { sfits = c.from_le_bytes.type_inv })
    ∙ c.from_le_bytes.ensures
    ∙ ap (to_z w64) (from_le_bytes-little_number o (8 * at) (omega arith))
    ∙ sym (uncomplement-to_z _)
    ∙ sym (get_d_values_in o at (omega arith))
