-- `read_item::bits_at` meets its contract. No bits spell 0 at every place, and some bits are what `fetch` gives.
use native.Mathlib.Nat.{add-zero}
use native.Mathlib.Omega.{arith}
use mathlib.Core.Path.{◌≡◌, ap₂, ◌∙◌}
use mathlib.Core.Bool.{Bool}
use mathlib.Core.List.{List}
use Prim.Native.Nat.{ℕ}
use lib.ListN.{length, drop}
use borrow.Author.Tests.{le-leb}
use Rattle.bits.specs.Bits.{number_of, unpack}
use Rattle.bits.specs.Access.{place_at}
use Rattle.read_item.specs.Steps.{front_read}
use Rattle.read_item.proofs.Outcomes.{fetched-front}
use Rattle.read_item.proofs.bits_at.Goals as goal
use Rattle.std.proofs.Common.{Ok, ok_or}

no_bits : (b : List Bool) (p k : ℕ) → k ≡ 0 → Ok (0, place_at p) ≡ front_read b p k
unfolding number_of
no_bits b p k z = rw (z, le-leb 0 (length b) (omega arith), add-zero p)

pub returns-then-k-eq0 : goal.returns-then-k-eq0
returns-then-k-eq0 c =
    let a = c.args in
    no_bits (drop a.place.0 (unpack a.message.now)) a.place.0 a.k c.if-k-eq0.true

pub returns : goal.returns
returns c =
    let a = c.args in
    c.ok_or.ensures.value
    ∙ ap₂ ok_or (c.fetch.ensures ∙ fetched-front a.message.now a.place.0 a.k (omega (arith, c.if-k-eq0.false))) c.at_place.ensures
