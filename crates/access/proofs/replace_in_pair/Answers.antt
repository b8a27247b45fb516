-- `access::replace_in_pair` meets its contract. The two octets, with their bits replaced, are put back (`put_in_pair`).
use borrow.Author.Rules.{rules}
use native.Mathlib.Omega.{arith}
use mathlib.Core.Path.{sym}
use Prim.Native.Nat.{ℕ, ◌+◌, ◌-◌, ◌*◌, ◌/◌, ◌%◌, ◌≤◌, ◌<◌}
use lib.ListN.{length, get_or, set, length-set}
use lib.Seq.{get_or-set_same}
use Rattle.bits.proofs.Access.{stored-spliced}
use Rattle.window.specs.Window.{placed}
use Rattle.window.proofs.InWindow.{put_in_pair}
use Rattle.access.proofs.replace_in_pair.Goals as goal

pub returns : goal.returns
returns c =
    let a = c.args in
    let pre = c.requires in
    let m = a.output.now in
    let above = 16 - a.below - a.k in
    let octets : (i : ℕ) → get_or m i 0 < 256 = λ i. search rules in
    let fits : 8 * a.at + above + a.k ≤ 8 * length m = omega arith in
    let pair = placed (256 * get_or m a.at 0 + get_or m (a.at + 1) 0) a.below a.k a.v in
    rw (c.replace-pair.ensures, c.octet_inside-second.ensures.0, pre.3) (
      (stored-spliced m (8 * a.at + above) a.k a.v fits
          (put_in_pair m octets a.at above a.k a.below a.v (omega arith) pre.2 pre.1)).1,
      sym (get_or-set_same (set m a.at (pair / 256 % 256)) (a.at + 1) (pair % 256) 0 (rw length-set pre.2)),
    )
