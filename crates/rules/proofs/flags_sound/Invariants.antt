-- `rules::flags_sound` meets its contract. The loop's invariant: the flags that are left decide the answer.
use Prim.Native.Nat.{◌+◌, ◌-◌, ◌*◌}
use mathlib.Core.Path.{◌≡◌}
use Rattle.octets.specs.Numbers.{u16s}
use Rattle.rules.specs.Rules.{flags_in_bounds}
use Rattle.rules.proofs.flags_sound.Given as goal

abbrev pub invariant-loop-i : goal.invariant-loop-i
invariant-loop-i l = flags_in_bounds (u16s l.table l.from 4 l.n) ≡ flags_in_bounds (u16s l.table (l.from + 4 * l.i) 4 (l.n - l.i))
