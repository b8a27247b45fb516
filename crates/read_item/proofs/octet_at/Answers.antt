-- `read_item::octet_at` meets its contract. A place on an octet's first bit has the octet's bits behind it.
use native.Mathlib.Omega.{arith}
use mathlib.Core.Path.{◌≡◌, sym, ap, ◌∙◌}
use Prim.Native.Nat.{◌*◌}
use lib.ListN.{drop, length-drop}
use Rattle.std.proofs.Common.{Err}
use Rattle.std.proofs.lemmas.List.{get_or_read}
use borrow.Author.Tests.{ltb-true, ltb-false}
use Rattle.bits.specs.Bits.{unpack}
use Rattle.bits.proofs.Bits.{length-unpack}
use Rattle.read_item.proofs.Outcomes.{front_past_end, front_there, front_missing}
use Rattle.read_item.proofs.WholeOctet.{front-octet}
use Rattle.read_item.proofs.octet_at.Goals as goal

pub returns-in-Some : goal.returns-in-Some
returns-in-Some c =
    let a = c.args in
    let m = a.message.now in
    let i = c.octets_before.result.0 in
    let p : 8 * i ≡ a.place.0 = omega arith in
    let inside = ltb-true i _ (sym c.in-Some.ensures.lookup.0) in
    let is = get_or_read m i c.in-Some.octet.now inside c.in-Some.ensures.lookup.1 0 in
    rw (c.from.ensures, is) (front_there _ a.place.0 8 (rw p at (front-octet m i inside (c.type_inv.message i).fits)))

pub returns-in-None : goal.returns-in-None
returns-in-None c =
    let a = c.args in
    let outside = ltb-false _ _ (sym c.in-None.ensures.lookup.0) in
    let b = drop a.place.0 (unpack a.message.now) in
    ap Err c.at_place.ensures ∙ front_missing b a.place.0 8 (front_past_end b a.place.0 8 (rw (length-drop, length-unpack) (omega arith)))
