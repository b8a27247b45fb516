-- `read_runs::read` meets its contract. The place is so many octets and bits from the start.
use Prim.Native.Nat.{ℕ, ◌+◌, ◌*◌}
use mathlib.Core.Path.{◌≡◌, ap, ◌∙◌}
use mathlib.Core.List.{List}
use native.Mathlib.Omega.{arith}
use lib.IntN.{ℤ}
use lib.ListN.{drop, set}
use Rattle.bits.specs.Bits.{unpack}
use Rattle.values.specs.Values.{set_value, store_all}
use Rattle.read_runs.specs.Runs.{octet_values}
use Rattle.read_runs.proofs.read.Goals as goal

pub returns : goal.returns
returns c =
    let a = c.args in
    let p : 8 * c.octets_before-first.result.0 + c.bits_into_octet-into.result ≡ a.place.0 = omega (arith, c.octets_before-first.ensures, c.bits_into_octet-into.ensures) in
    let run : ℕ → List ℤ = λ (k : ℕ). octet_values a.count (drop k (unpack a.message.now)) in (
      c.read_numbers.ensures ∙ ap (λ (k : ℕ). store_all set a.values.now a.at (run k)) p,
      c.read_packed.ensures ∙ ap (λ (k : ℕ). store_all set_value a.packed.now a.at (run k)) p,
    )
