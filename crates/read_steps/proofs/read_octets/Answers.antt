-- `read_steps::read_octets` meets its contract. Reading the run comes to reading what is left of it after the octets that
-- are ready (`continues-octets`).
-- Assumes nothing.
use Prim.Native.Nat.{ℕ, ◌+◌, ◌-◌, ◌*◌, ◌≤◌}
use mathlib.Core.Path.{◌≡◌, ap}
use mathlib.Core.List.{List}
use native.Mathlib.Omega.{arith}
use lib.IntN.{ℤ, pos}
use lib.ListN.{length, drop, set}
use Rattle.bits.specs.Bits.{unpack}
use Rattle.item.specs.Code.{number}
use Rattle.values.specs.Values.{set_value, store_all}
use Rattle.items.specs.Items.{one}
use Rattle.items.proofs.Runs.{times_none}
use Rattle.read_runs.specs.Runs.{octet_values}
use Rattle.read_steps.specs.declared.Cursor.{Cursor}
use Rattle.read_steps.specs.Reads.{cursor_at, state_at, Continues}
use Rattle.read_steps.proofs.Flow.{continues-trans, continues_same, continues_end}
use Rattle.read_steps.proofs.Octets.{octets, continues-octets}
use Rattle.read_steps.proofs.read_octets.Goals as goal

-- what is left after the n octets that are ready
left_over : (m : List ℕ) (room count n : ℕ) (a : Cursor) {old : List ℤ} {old_packed : List ℕ} {values : List ℤ} {packed : List ℕ} {place : ℕ}
    → 8 * n ≤ 8 * length m - a.place.0 → n ≤ room - a.count → n ≤ count
    → (values ≡ store_all set old a.count (octet_values n (drop a.place.0 (unpack m)))) × (packed ≡ store_all set_value old_packed a.count (octet_values n (drop a.place.0 (unpack m))))
    → place ≡ a.place.0 + 8 * n
    → Continues m room (octets count) (state_at a old old_packed) (octets (count - n)) (state_at (cursor_at place (a.count + n)) values packed)
left_over m room count n a {old} {old_packed} there free few kept e =
    let all : count ≡ n + (count - n) = omega arith in
    rw (kept.0, kept.1, e) (continues-trans (continues_same (ap octets all)) (continues-octets m room n (count - n) (state_at a old old_packed) there free))

pub returns-then-ready-count : goal.returns-then-ready-count
returns-then-ready-count c =
    let a = c.args in
    let n = c.fitting-ready.result in
    let left = left_over a.message.now a.room a.count n a.cursor (omega arith) (omega arith) (omega arith) c.read.ensures c.further.ensures in
    continues_end (continues-trans left (continues_same (times_none (a.count - n) (one (number (pos 0) 255)) (omega arith))))

pub returns : goal.returns
returns c =
    let a = c.args in
    let left = left_over a.message.now a.room a.count c.fitting-ready.result a.cursor (omega arith) (omega arith) (omega arith) c.read.ensures c.further.ensures in
    left.complete _ _ _ c.read_numbers.ensures
