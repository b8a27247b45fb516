-- The eight bits of an octet of a list, read from its first bit on, are the octet.
use Prim.Native.Nat.{ℕ, suc, ◌+◌, ◌*◌, ◌<◌}
use mathlib.Core.Bool.{Bool}
use mathlib.Core.Path.{◌≡◌, sym, ap, ◌∙◌}
use mathlib.Core.List.{List, ◌++◌}
use native.Mathlib.Omega.{arith}
use lib.ListN.{length, get_or, drop, length-append}
use lib.Seq.{drop-cons, take_at}
use borrow.Author.Tests.{le-leb}
use Rattle.bits.specs.Bits.{bits_of, unpack}
use Rattle.bits.specs.Access.{place_at}
use Rattle.bits.proofs.Bits.{length-bits_of, number_of-bits_of, unpack-drop}
use Rattle.read_item.specs.Steps.{front_of}
use Rattle.std.proofs.Common.{Some}

module _ (m : List ℕ) (i : ℕ) (inside : i < length m) where
  abbrev after : List Bool
  after = unpack (drop (suc i) m)

  drop_before : drop (8 * i) (unpack m) ≡ bits_of 8 (get_or m i 0) ++ after
  unfolding unpack
  drop_before = sym (unpack-drop i m (omega arith)) ∙ ap unpack (drop-cons m i 0 inside)

  pub front-octet : get_or m i 0 < 256 → front_of (drop (8 * i) (unpack m)) (8 * i) 8 ≡ Some (get_or m i 0, place_at (8 * i + 8))
  front-octet h =
      let o = get_or m i 0 in
      rw (
        drop_before,
        le-leb 8 (length (bits_of 8 o ++ after)) (rw (length-append, length-bits_of) (omega arith)),
        take_at (bits_of 8 o) after 8 (length-bits_of 8 o),
        number_of-bits_of 8 o h,
      )
