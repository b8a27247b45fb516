-- From the outcome that was kept to what the slices hold once their rest is zeroed.
-- Assumes nothing.
use Prim.Native.Nat.{ℕ, ◌-◌, ◌*◌, ◌≤◌}
use mathlib.Core.Path.{◌≡◌, refl, ap}
use mathlib.Core.List.{List, ◌++◌}
use lib.IntN.{ℤ, pos}
use lib.ListN.{length, take, set, replicate}
use Rattle.values.specs.Values.{set_value, list_octets}
use Rattle.values.proofs.Stores.{cleared-values, cleared-octets, length-list_octets}
use Rattle.items.specs.Reading.{ReadOutcome, accept, refuse, read_answer, read_values}
use Rattle.items.specs.Slices.{values_after, packed_after}
use Rattle.read_steps.specs.Ends.{KeptBy, kept_count}

-- an answer tells how many values its outcome has
pub count-is : (x : ReadOutcome) → kept_count (read_answer x) ≡ length (read_values x)
count-is (accept vs n) = refl
count-is (refuse refusal) = refl

pub settled-values : (x : ReadOutcome) (old new : List ℤ) → length (read_values x) ≤ length old → length new ≡ length old → KeptBy set x old new
    → take (length (read_values x)) new ++ replicate (length new - length (read_values x)) (pos 0) ≡ values_after (length old) x
settled-values (accept vs n) old new l e k = rw (e, k) (cleared-values vs old l)
settled-values (refuse refusal) old new l e k = ap (λ m. replicate (m - 0) (pos 0)) e

pub settled-packed : (x : ReadOutcome) (old new : List ℕ) → 8 * length (read_values x) ≤ length old → length new ≡ length old → KeptBy set_value x old new
    → take (8 * length (read_values x)) new ++ replicate (length new - 8 * length (read_values x)) 0 ≡ packed_after (length old) x
unfolding list_octets
settled-packed (accept vs n) old new l e k = rw (e, k, length-list_octets vs) (cleared-octets vs old l)
settled-packed (refuse refusal) old new l e k = ap (λ m. replicate (m - 0) 0) e
