-- `opened::take_from` meets its contract: of no bits none is missing, anywhere.
use Prim.Native.Nat.{ℕ, ◌+◌, ◌-◌, ◌*◌}
use mathlib.Core.Bool.{cond}
use mathlib.Core.Path.{◌≡◌, refl}
use mathlib.Core.List.{List}
use native.Mathlib.Nat.{add-zero}
use native.Mathlib.Omega.{arith}
use lib.Dec.{leb}
use lib.ListN.{length, take, drop}
use borrow.Author.Tests.{le-leb}
use Rattle.bits.specs.Bits.{number_of, unpack}
use Rattle.opened.specs.Opened.{kept, took, refused_at}
use Rattle.opened.proofs.take_from.Goals as goal

none-taken : (m : List ℕ) (p : ℕ)
    → took 0 p ≡ cond (leb 0 (8 * length m - p)) (took (number_of (take 0 (drop p (unpack m)))) (p + 0)) (refused_at 2 p)
unfolding number_of
none-taken m p = rw (le-leb 0 (8 * length m - p) (omega arith), add-zero p) refl

pub returns-then-k-eq0 : goal.returns-then-k-eq0
returns-then-k-eq0 c =
    let z : c.args.k ≡ 0 = c.if-k-eq0.true in
    rw z (none-taken (kept c.args.message.now) c.args.place.0)
