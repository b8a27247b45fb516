-- `access::store_wide` meets its contract. Bits that lie in two octets are replaced there; else the window at
-- the first octet, with the bits replaced, is put back (`put_in_window`).
use borrow.Author.Tests.{leb-true, leb-false}
use native.Mathlib.Omega.{arith}
use mathlib.Core.List.{List}
use mathlib.Core.Path.{◌≡◌, sym, ◌∙◌}
use Prim.Native.Nat.{ℕ, ◌+◌, ◌-◌, ◌*◌, ◌≤◌, ◌<◌}
use lib.ListN.{length, get_or}
use Rattle.bits.specs.Bits.{bits_of, unpack}
use Rattle.bits.specs.Access.{stored, overwritten}
use Rattle.bits.proofs.Access.{stored_inside, stored_past_end, overwritten_past_end, stored-spliced}
use Rattle.bits.proofs.Bits.{length-bits_of, length-unpack}
use Rattle.window.proofs.InWindow.{put_in_window}
use Rattle.access.proofs.store_wide.Goals as goal
use Rattle.std.proofs.Common.{None}

-- no room: nothing is stored
full : (m : List ℕ) (p k v : ℕ) → 8 * length m < p + k → (None ≡ stored m p k) × (unpack m ≡ overwritten (unpack m) p (bits_of k v))
full m p k v h =
    (sym (stored_past_end m p k h), sym (overwritten_past_end (unpack m) p (bits_of k v) (rw (length-unpack, length-bits_of) h)))

pub returns-then-not-inside : goal.returns-then-not-inside
returns-then-not-inside c =
    let a = c.args in
    full a.output.now a.place.0 a.k a.v (leb-false _ _ (sym c.inside.ensures ∙ c.if-not-inside.true))

pub returns-then-at-output : goal.returns-then-at-output
returns-then-at-output c =
    let a = c.args in
    let fits : a.place.0 + a.k ≤ 8 * length a.output.now = leb-true _ _ (sym c.inside.ensures ∙ c.if-not-inside.false) in
    let end = c.bits_into_octet.result + a.k in
    let place : 8 * c.octets_before-first.result.0 + (16 - (16 - end) - a.k) ≡ a.place.0 =
    omega (arith, c.octets_before-first.ensures, c.bits_into_octet.ensures, c.if-end-le16.true) in
    (sym (stored_inside a.output.now a.place.0 a.k fits), rw (← place) c.replace_in_pair.ensures.0)

pub returns : goal.returns
returns c =
    let a = c.args in
    let fits : a.place.0 + a.k ≤ 8 * length a.output.now = leb-true _ _ (sym c.inside.ensures ∙ c.if-not-inside.false) in
    let octets : (i : ℕ) → get_or a.output.now i 0 < 256 = λ i. grind arith in
    rw (
      c.put_window.ensures,
      c.replace.ensures,
      c.bits_behind.ensures,
      c.window-window.ensures.0,
      c.octets_before-first.ensures,
    )
    (stored-spliced a.output.now a.place.0 a.k a.v fits
    (put_in_window a.output.now octets a.place.0 a.k (omega arith) fits a.v c.requires.2))
