-- `access::fetch` meets its contract. The bits are cut out of the window at their first octet (`number_in_window`).
use borrow.Author.Tests.{leb-true}
use native.Mathlib.Omega.{arith}
use mathlib.Core.Path.{sym, ◌∙◌}
use Prim.Native.Nat.{ℕ, ◌+◌, ◌*◌, ◌≤◌, ◌<◌}
use lib.ListN.{length, get_or}
use Rattle.bits.proofs.Access.{fetched_inside}
use Rattle.window.proofs.InWindow.{number_in_window}
use Rattle.access.proofs.fetch.Goals as goal

pub returns-then-not-inside : goal.returns-then-not-inside
returns-then-not-inside c = simp (sym c.inside.ensures ∙ c.if-not-inside.true)

pub returns : goal.returns
returns c =
    let a = c.args in
    let m = a.message.now in
    let fits : a.place.0 + a.k ≤ 8 * length m = leb-true _ _ (sym c.inside.ensures ∙ c.if-not-inside.false) in
    let octets : (i : ℕ) → get_or m i 0 < 256 = λ i. omega (arith, c.type_inv.message i) in
    rw (
      fetched_inside m a.place.0 a.k fits,
      number_in_window m octets a.place.0 a.k (omega arith) fits,
      c.cut.ensures,
      c.bits_into_octet-into.ensures,
      c.window-window.ensures.0,
      c.octets_before-first.ensures,
    )
