-- `access::octet_at` meets its contract. The bits are cut out of two octets (`number_in_pair`); out of the first alone where
-- they begin with it.
use borrow.Author.Rules.{rules}
use native.Mathlib.Omega.{arith}
use native.Mathlib.Nat.{mod-lt}
use mathlib.Core.Path.{◌≡◌, sym, ap, ◌∙◌}
use Prim.Native.Nat.{ℕ, ◌+◌, ◌-◌, ◌*◌, ◌/◌, ◌%◌, ◌^◌, ◌<◌}
use lib.ListN.{get_or}
use Rattle.window.proofs.InWindow.{number_in_pair}
use Rattle.access.proofs.octet_at.Goals as goal

pub returns-then-into-eq0 : goal.returns-then-into-eq0
returns-then-into-eq0 c =
    let a = c.args in
    let m = a.message.now in
    let octets : (i : ℕ) → get_or m i 0 < 256 = λ i. search rules in
    let first : c.octet_inside-first.result ≡ get_or m a.at 0 = c.octet_inside-first.ensures.0 in
    let next = octets (a.at + 1) in
    let e : 8 - a.into ≡ 8 = omega arith in
    let cut : (256 * get_or m a.at 0 + get_or m (a.at + 1) 0) / 256 % 256 ≡ get_or m a.at 0 = omega (arith, octets a.at) in (
      first ∙ sym cut ∙ ap (λ (k : ℕ). (256 * get_or m a.at 0 + get_or m (a.at + 1) 0) / 2 ^ k % 256) (sym e)
          ∙ sym (number_in_pair m octets a.at a.into (omega arith) (omega arith)),
      c.octet_inside-first.ensures.1,
    )

pub returns : goal.returns
returns c =
    let a = c.args in
    let m = a.message.now in
    let octets : (i : ℕ) → get_or m i 0 < 256 = λ i. search rules in (
      rw (c.octet_inside-first.ensures.0, c.octet_inside-second.ensures.0) (sym (number_in_pair m octets a.at a.into (omega arith) (omega arith))),
      mod-lt _ (omega arith),
    )
