-- `whole::number` meets its contract. The octets of a number, fetched and kept.
-- Assumes nothing.
use Prim.Native.Nat.{◌-◌, ◌*◌, ◌^◌, ◌<◌}
use mathlib.Core.Path.{refl, sym, ◌∙◌}
use native.Mathlib.Omega.{arith}
use lib.IntN.{pos}
use Rattle.bits.proofs.Access.{fetched-Bits}
use Rattle.bits.proofs.Bits.{number_of-take_lt}
use Rattle.item.specs.Code.{number}
use Rattle.read_steps.proofs.Keeping.{keeping, reads_one}
use Rattle.whole.proofs.Cut.{number-ended, number-fetched, width-octets}
use Rattle.whole.proofs.number.Goals as goal
use Rattle.std.proofs.Common.{Err}

pub returns-in_default : goal.returns-in_default
returns-in_default c =
    let a = c.args in
    let span = 2 ^ (8 * a.octets) - 1 in
    let m = a.message.now in
    let w = width-octets a.octets c.requires.2 c.requires.3 in
    let short = sym c.fetch-f.ensures ∙ c.in_default.is in
    rw c.at_place.ensures
    (reads_one (Err _) (keeping (number (pos 0) span) refl (sym (number-ended m a.cursor.place.0 (8 * a.octets) (omega arith) span w short)) (refl, refl, refl)))

pub returns : goal.returns
returns c =
    let a = c.args in
    let span = 2 ^ (8 * a.octets) - 1 in
    let m = a.message.now in
    let w = width-octets a.octets c.requires.2 c.requires.3 in
    let bits = sym c.fetch-f.ensures ∙ c.in-Some.is in
    let told = fetched-Bits m a.cursor.place.0 (8 * a.octets) _ _ bits in
    let small : c.in-Some.number < 2 ^ (8 * a.octets) = rw told.1 (number_of-take_lt (8 * a.octets) (8 * a.octets) _ (omega arith)) in
    reads_one c.keep.result
    (keeping (number (pos 0) span) refl (sym (number-fetched m a.cursor.place.0 (8 * a.octets) (omega arith) span w bits (omega arith))) c.keep.ensures)
