-- `bitwise::bit_at` meets its contract. The bit is cut out of its octet, the first of the window there (`number_in_window`).
use native.Mathlib.Omega.{arith}
use native.Mathlib.Nat.{mod-lt, div-div-eq-div-mul}
use mathlib.Core.List.{List}
use mathlib.Core.Path.{◌≡◌, sym, ap, ◌∙◌}
use Prim.Native.Nat.{ℕ, ◌+◌, ◌-◌, ◌*◌, ◌/◌, ◌%◌, ◌^◌, ◌<◌}
use lib.ListN.{length, get_or, take, drop}
use lib.Pow.{pow-add}
use Rattle.bits.specs.Bits.{number_of, unpack}
use Rattle.window.specs.Window.{window_at}
use Rattle.window.proofs.InWindow.{number_in_window}
use Rattle.bitwise.proofs.bit_at.Goals as goal

-- a bit is one of its octet's
bit-in-octet : (m : List ℕ) → ((i : ℕ) → get_or m i 0 < 256) → (p : ℕ) → p < 8 * length m
    → number_of (take 1 (drop p (unpack m))) ≡ get_or m (p / 8) 0 / 2 ^ (7 - p % 8) % 2
bit-in-octet m octets p inside =
    let w = window_at m (p / 8) in
    let e : 40 - p % 8 - 1 ≡ 32 + (7 - p % 8) = omega arith in
    let b = octets (p / 8 + 1) in
    let c = octets (p / 8 + 2) in
    let d = octets (p / 8 + 3) in
    let f = octets (p / 8 + 4) in
    let top : w / 4294967296 ≡ get_or m (p / 8) 0 = omega arith in
    number_in_window m octets p 1 (omega arith) (omega arith)
    ∙ ap (λ (u : ℕ). w / u % 2) (ap (2 ^◌) e ∙ pow-add 2 32 (7 - p % 8))
    ∙ ap (λ (u : ℕ). u % 2) (sym (div-div-eq-div-mul w 4294967296 (2 ^ (7 - p % 8))))
    ∙ ap (λ (u : ℕ). u / 2 ^ (7 - p % 8) % 2) top

pub returns : goal.returns
returns c =
    let octets : (i : ℕ) → get_or c.args.message.now i 0 < 256 = λ i. (c.type_inv.message i).fits in
    (rw c.octet_inside.ensures.0 (sym (bit-in-octet c.args.message.now octets c.args.at (omega arith))), mod-lt _ (omega arith))
