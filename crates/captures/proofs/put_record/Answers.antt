-- `captures::put_record` meets its contract: the line of an LM is that of all the octets behind its headers.
use Prim.Native.Nat.{◌-◌}
use mathlib.Core.Path.{◌≡◌}
use native.Mathlib.Omega.{arith}
use lib.ListN.{length, take, drop, length-drop}
use lib.Seq.{take_all}
use Rattle.captures.proofs.put_record.Goals as goal

pub returns-in-Lm-clause-appended : goal.returns-in-Lm-clause-appended
returns-in-Lm-clause-appended c =
    let octets = c.args.octets.now in
    let rest : take (length octets - 30) (drop 30 octets) ≡ drop 30 octets = take_all (length octets - 30) (drop 30 octets) (omega (arith, length-drop 30 octets)) in
    rw (← c.in-Lm.ensures) (rw rest at c.put_lm.ensures.appended)
