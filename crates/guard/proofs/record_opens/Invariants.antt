-- `guard::record_opens` meets its contract. Invariant: the rows referred to all can be read exactly if those from the field on can.
-- Assumes nothing.
use Prim.Native.Nat.{◌+◌, ◌-◌, ◌≤◌}
use mathlib.Core.Path.{◌≡◌}
use lib.ListN.{drop}
use Rattle.octets.specs.Numbers.{u16, u16s}
use Rattle.row.specs.Rows.{row_at}
use Rattle.encoding.specs.Guarded.{all_lead, opens}
use Rattle.guard.proofs.record_opens.Given as goal

abbrev pub invariant-loop-field : goal.invariant-loop-field
invariant-loop-field l = (l.field ≤ l.fields) × (all_lead l.state l.at (drop l.field (u16s l.state (l.at + 6) 4 (u16 l.state (l.at + 4)))) ≡ opens l.state l.at (row_at l.state l.at))

abbrev pub decreases-loop-field : goal.decreases-loop-field
decreases-loop-field l = l.fields - l.field
