-- `access::last_bits` meets its contract. The last bits are the lowest of the last octet (`number-last`).
use borrow.Author.Rules.{rules}
use native.Mathlib.Omega.{arith}
use mathlib.Core.Path.{sym}
use Prim.Native.Nat.{ℕ, ◌<◌}
use lib.ListN.{get_or}
use Rattle.window.proofs.InWindow.{number-last}
use Rattle.access.proofs.last_bits.Goals as goal

pub returns : goal.returns
returns c =
    let a = c.args in
    let m = a.message.now in
    let octets : (i : ℕ) → get_or m i 0 < 256 = λ i. search rules in
    rw (c.power.ensures.0, c.octet_inside-last.ensures.0) (sym (number-last m octets a.k (omega arith) (omega arith)))
