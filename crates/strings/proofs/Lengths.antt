-- A length that one octet tells.
-- Assumes nothing.
use Prim.Native.Nat.{ℕ, ◌≤◌, ◌<◌}
use mathlib.Core.Path.{◌≡◌, sym, ◌∙◌}
use mathlib.Core.List.{List}
use native.Mathlib.Omega.{arith}
use lib.IntN.{pos}
use lib.ListN.{drop}
use borrow.Author.Tests.{le-leb}
use Rattle.bits.specs.Bits.{unpack}
use Rattle.bits.specs.Access.{fetched}
use Rattle.bits.specs.declared.BitPlace.{BitPlace}
use Rattle.item.specs.Code.{length_within}
use Rattle.item.specs.Answers.{item_at}
use Rattle.item.proofs.Leading.{ones-clear}
use Rattle.read_item.proofs.Outcomes.{fetched-front, length_one_octet}
use Rattle.std.proofs.Common.{Ok, Some}

pub told_by_octet : (m : List ℕ) (p least most : ℕ) {octet : ℕ} {next : BitPlace} → fetched m p 8 ≡ Some (octet, next) → octet < 128 → least ≤ octet → octet ≤ most
    → Ok (pos octet, next) ≡ item_at (length_within least most) m p
told_by_octet m p least most {octet} {next} e short low high =
    let front = sym (fetched-front m p 8 (omega arith)) ∙ e in
    let one = length_one_octet least most (drop p (unpack m)) p front 0 (sym (ones-clear 3 7 octet short)) (omega arith) in
    sym (rw (le-leb 0 octet (omega arith), le-leb least octet low, le-leb octet most high) at one)
