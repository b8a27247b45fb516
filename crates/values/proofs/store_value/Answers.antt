-- `values::store_value` meets its contract. The eight octets of the value are stored one by one.
use Rattle.std.proofs.Common.{◌*◌, ◌∙◌, ◌≡◌, length, sym, ap, arith, to_z, of_z, w64}
use Rattle.std.proofs.lemmas.List.Edits.{paste_more}
use mir.Facts.{to_z-of_z}
use Rattle.values.specs.Values.{value_octets}
use Rattle.values.proofs.Complement.{complement-of_z}
use Rattle.values.proofs.LittleEndian.{to_le_bytes-little_endian}
use Rattle.values.proofs.Stores.{set_value-paste}
use Rattle.values.proofs.store_value.Goals as goal

pub loop-i-preserved : goal.loop-i-preserved
loop-i-preserved c =
    let b = c.to_le_bytes.result in
    let l : length b ≡ 8 = ap length c.to_le_bytes.ensures in
    rw c.loop-i.invariant (paste_more c.args.octets.now (8 * c.args.at) b c.loop-i.i 0 (omega arith) (omega arith))

pub returns : goal.returns
unfolding value_octets
returns c =
    let v = c.args.value in
    let held = c.to_le_bytes.ensures ∙ to_le_bytes-little_endian (of_z w64 (to_z w64 (of_z w64 v))) in
    let kept = rw (to_z-of_z {w = w64} {z = v} c.ranges.value, sym (complement-of_z v)) at held in
    c.loop-i.invariant ∙ set_value-paste c.args.octets.now c.args.at v c.to_le_bytes.result c.loop-i.i kept (omega arith) (omega arith)
