-- The number that one octet, two or three spell.
-- Assumes nothing.
use Prim.Native.Nat.{ℕ, ◌+◌, ◌-◌, ◌*◌, ◌/◌, ◌%◌, ◌^◌, ◌≤◌, ◌<◌}
use mathlib.Core.Path.{◌≡◌, ◌∙◌}
use mathlib.Core.List.{List}
use native.Mathlib.Omega.{arith}
use lib.ListN.{length, get_or, take, drop}
use Rattle.bits.specs.Bits.{number_of, unpack}
use Rattle.window.specs.Window.{window_at}
use Rattle.window.proofs.InWindow.{number_in_window}

module _ (m : List ℕ) (octets : (i : ℕ) → get_or m i 0 < 256) (at : ℕ) where
  abbrev spelling : ℕ → ℕ
  spelling n = number_of (take (8 * n) (drop (8 * at) (unpack m)))

  -- cut out of the window there
  in_window : (n : ℕ) → n ≤ 3 → at + n ≤ length m → spelling n ≡ window_at m at / 2 ^ (40 - 8 * n) % 2 ^ (8 * n)
  in_window n few there =
      let i : (8 * at) / 8 ≡ at = omega arith in
      let k : 40 - (8 * at) % 8 - 8 * n ≡ 40 - 8 * n = omega arith in
      rw (i, k) at (number_in_window m octets (8 * at) (8 * n) (omega arith) (omega arith))

  pub one_octet : at + 1 ≤ length m → spelling 1 ≡ get_or m at 0
  one_octet there =
      let a = octets at in
      let b = octets (at + 1) in
      let c = octets (at + 2) in
      let d = octets (at + 3) in
      let e = octets (at + 4) in
      let cut : window_at m at / 4294967296 % 256 ≡ get_or m at 0 = omega arith in
      in_window 1 (omega arith) there ∙ cut

  pub two-octets : at + 2 ≤ length m → spelling 2 ≡ 256 * get_or m at 0 + get_or m (at + 1) 0
  two-octets there =
      let a = octets at in
      let b = octets (at + 1) in
      let c = octets (at + 2) in
      let d = octets (at + 3) in
      let e = octets (at + 4) in
      let cut : window_at m at / 16777216 % 65536 ≡ 256 * get_or m at 0 + get_or m (at + 1) 0 = omega arith in
      in_window 2 (omega arith) there ∙ cut

  pub three-octets : at + 3 ≤ length m → spelling 3 ≡ 256 * (256 * get_or m at 0 + get_or m (at + 1) 0) + get_or m (at + 2) 0
  three-octets there =
      let a = octets at in
      let b = octets (at + 1) in
      let c = octets (at + 2) in
      let d = octets (at + 3) in
      let e = octets (at + 4) in
      let cut : window_at m at / 65536 % 16777216 ≡ 256 * (256 * get_or m at 0 + get_or m (at + 1) 0) + get_or m (at + 2) 0 = omega arith in
      in_window 3 (omega arith) there ∙ cut
