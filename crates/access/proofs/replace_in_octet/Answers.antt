-- `access::replace_in_octet` meets its contract. The octet, with its bits replaced, is put back (`put_in_octet`).
use borrow.Author.Rules.{rules}
use native.Mathlib.Omega.{arith}
use Prim.Native.Nat.{ℕ, ◌+◌, ◌-◌, ◌*◌, ◌≤◌, ◌<◌}
use lib.ListN.{length, get_or}
use Rattle.bits.proofs.Access.{stored-spliced}
use Rattle.window.proofs.InWindow.{put_in_octet}
use Rattle.access.proofs.replace_in_octet.Goals as goal

pub returns : goal.returns
returns c =
    let a = c.args in
    let pre = c.requires in
    let m = a.output.now in
    let above = 8 - a.below - a.k in
    let octets : (i : ℕ) → get_or m i 0 < 256 = λ i. search rules in
    let fits : 8 * a.at + above + a.k ≤ 8 * length m = omega arith in
    rw (c.replace.ensures, c.octet_inside-octet.ensures.0)
    (stored-spliced m (8 * a.at + above) a.k a.v fits
    (put_in_octet m octets a.at above a.k a.below a.v (omega arith) pre.2 pre.1)).1
