-- `rules::deepest` meets its contract. The loop's invariant: the depth so far and the references that are left decide the answer.
use Prim.Native.Nat.{◌+◌, ◌-◌, ◌*◌}
use mathlib.Core.Path.{◌≡◌}
use Rattle.octets.specs.Numbers.{u16s}
use Rattle.rules.specs.Steps.{spread, kept, deepest_from}
use Rattle.rules.proofs.deepest.Given as goal

abbrev pub invariant-loop-i : goal.invariant-loop-i
invariant-loop-i l =
    deepest_from (spread l.depths) 0 (kept l.reserved (u16s l.table l.from l.step l.n))
    ≡ deepest_from (spread l.depths) l.depth (kept l.reserved (u16s l.table (l.from + l.step * l.i) l.step (l.n - l.i)))
