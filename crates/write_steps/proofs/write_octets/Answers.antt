-- `write_steps::write_octets` meets its contract. Writing the run comes to writing what is left of it after the octets that
-- were put (`continues-octets`).
-- Assumes nothing.
use Prim.Native.Nat.{◌-◌}
use native.Mathlib.Omega.{arith}
use lib.IntN.{pos}
use Rattle.item.specs.Code.{number}
use Rattle.items.specs.Items.{one}
use Rattle.items.proofs.Runs.{times_none}
use Rattle.write_steps.specs.Writes.{list_in, state_at}
use Rattle.write_steps.proofs.Flow.{continues-trans, continues_same, continues_end}
use Rattle.write_steps.proofs.Octets.{continues-octets}
use Rattle.write_steps.proofs.write_octets.Goals as goal

pub returns-then-done-count : goal.returns-then-done-count
returns-then-done-count c =
    let a = c.args in
    let put = continues-octets (list_in a.values.now a.packed.now) c.write-done.result a.count (state_at a.cursor a.output.now) c.write-done.new.output c.write-done.ensures in
    rw c.further.ensures
    (continues_end (continues-trans put (continues_same (times_none (a.count - c.write-done.result) (one (number (pos 0) 255)) (omega arith)))))

pub returns : goal.returns
returns c =
    let a = c.args in
    let put = continues-octets (list_in a.values.now a.packed.now) c.write-done.result a.count (state_at a.cursor a.output.now) c.write-done.new.output c.write-done.ensures in
    put.complete _ _ (rw c.further.ensures at c.write_numbers.ensures)
