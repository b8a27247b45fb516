-- `bitwise::bits_from` meets its contract. Invariant: the number is what so many of the bits spell.
use mathlib.Core.Path.{◌≡◌}
use Prim.Native.Nat.{◌^◌, ◌<◌, ◌≤◌}
use lib.ListN.{take, drop}
use Rattle.bits.specs.Bits.{number_of, unpack}
use Rattle.bitwise.proofs.bits_from.Given as goal

abbrev pub invariant-loop-done : goal.invariant-loop-done
invariant-loop-done l = (l.done ≤ l.k) × (l.number ≡ number_of (take l.done (drop l.from (unpack l.message)))) × (l.number < 2 ^ 32)
