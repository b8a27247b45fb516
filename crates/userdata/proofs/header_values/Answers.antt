-- `userdata::header_values` meets its contract. The two headers one after the other.
-- Assumes nothing.
use Prim.Native.Nat.{ℕ}
use mathlib.Core.List.{List}
use lib.IntN.{ℤ}
use Rattle.encoding.specs.Rows.{items}
use Rattle.guard.specs.Readable.{asks_at}
use Rattle.guard.proofs.Readable.{asks-table, readable-table, tested-table}
use Rattle.read_steps.specs.Reads.{Step, State, Reads}
use Rattle.builtin.specs.Tables.{lm}
use Rattle.builtin.proofs.Tables.{lm-obeys}
use Rattle.userdata.proofs.Taken.{network-starts, transport-starts}
use Rattle.userdata.proofs.Outcome.{network-refused, transport-refused, transport_past}
use Rattle.userdata.proofs.header_values.Goals as goal

-- what a row of the table asks for

asked : (o : ℕ) {message : List ℕ} {room : ℕ} {from : State} {values : List ℤ} {packed : List ℕ} {step : Step}
    → Reads message room (asks_at lm o) from values packed step → Reads message room (items lm o) from values packed step
asked o r = rw (asks-table lm o lm-obeys.most) at r

pub read_row-network-requires : goal.read_row-network-requires
unfolding lm
read_row-network-requires c = (readable-table lm-obeys network-starts, tested-table lm 204 lm-obeys.most, c.requires)

pub returns-in_default : goal.returns-in_default
unfolding lm
returns-in_default c =
    let a = c.args in
    network-refused a.message.now _ _ _ _ c.read_row-network.result (asked 204 c.read_row-network.ensures) _ c.in_default.is

pub read_row-transport-requires : goal.read_row-transport-requires
unfolding lm
read_row-transport-requires c = (readable-table lm-obeys transport-starts, tested-table lm 278 lm-obeys.most, c.requires)

pub returns-in_default-transport : goal.returns-in_default-transport
unfolding lm
returns-in_default-transport c =
    let a = c.args in
    transport-refused a.message.now _ _ _ _ c.read_row-network.result (asked 204 c.read_row-network.ensures) _ c.in-Ok.is _ _ c.read_row-transport.result (asked 278 c.read_row-transport.ensures) _ c.in_default-transport.is

pub returns : goal.returns
unfolding lm
returns c =
    let a = c.args in
    transport_past a.message.now _ _ _ _ c.read_row-network.result (asked 204 c.read_row-network.ensures) _ c.in-Ok.is _ _ c.read_row-transport.result (asked 278 c.read_row-transport.ensures) _ c.in-Ok-transport.is
