-- `hexadecimal::put_hex` meets its contract. The invariant: the digits of the first octets are put, and the octets that are left stand where they stood.
use Prim.Native.Nat.{◌+◌, ◌*◌, ◌≤◌}
use mathlib.Core.Path.{◌≡◌}
use lib.ListN.{length, take, drop}
use Rattle.lines.specs.Text.{Appended}
use Rattle.hexadecimal.specs.Hex.{hex}
use Rattle.hexadecimal.proofs.put_hex.Given as goal

abbrev pub invariant-loop-i : goal.invariant-loop-i
invariant-loop-i l = (length l.out ≡ length l.initial.out) × (l.i ≤ l.count) × Appended l.initial.out l.at (hex (take l.i (take l.count (drop (l.at + l.count) l.initial.out)))) l.out (l.at + 2 * l.i) × (drop (l.at + l.count + l.i) l.out ≡ drop (l.at + l.count + l.i) l.initial.out)
