-- `strings::run` meets its contract. Octets that are there, with room for their values, are read one by one by keeping all of
-- them at once (`continues-octets`).
-- Assumes nothing.
use Prim.Native.Nat.{◌+◌, ◌-◌, ◌*◌, ◌≤◌}
use mathlib.Core.Path.{◌≡◌, ap}
use native.Mathlib.Omega.{arith}
use lib.IntN.{pos}
use lib.ListN.{length}
use Rattle.item.specs.Code.{number}
use Rattle.items.specs.Items.{one}
use Rattle.items.proofs.Runs.{times_none}
use Rattle.read_steps.specs.Reads.{state_at}
use Rattle.read_steps.proofs.Flow.{continues-trans, continues_same, continues_end}
use Rattle.read_steps.proofs.Octets.{octets, continues-octets}
use Rattle.strings.proofs.run.Goals as goal

pub returns : goal.returns
returns c =
    let a = c.args in
    let m = a.message.now in
    let place : 8 * c.octets_before-first.result.0 + 0 ≡ a.cursor.place.0 = omega (arith, c.octets_before-first.ensures, c.requires.1) in
    let end : 8 * (c.octets_before-first.result.0 + a.count) ≡ a.cursor.place.0 + 8 * a.count = omega (arith, c.octets_before-first.ensures, c.requires.1) in
    let there : 8 * a.count ≤ 8 * length m - a.cursor.place.0 = omega (arith, c.octets_before-first.ensures, c.requires.1, c.if-ready-count.false, c.fitting-ready.ensures, c.fitting-free.ensures) in
    let room : a.count ≤ a.room - a.cursor.count = omega (arith, c.if-ready-count.false, c.fitting-ready.ensures, c.fitting-free.ensures) in
    let all : a.count ≡ a.count + 0 = omega arith in
    rw (c.read_packed.ensures, c.read_numbers.ensures, place, end)
    (continues_end
    (continues-trans (continues_same (ap octets all))
    (continues-trans (continues-octets m a.room a.count 0 (state_at a.cursor a.values.now a.packed.now) there room)
    (continues_same (times_none 0 (one (number (pos 0) 255)) (omega arith))))))
