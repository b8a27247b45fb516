-- The capture program is steady, so that the laws of machines hold of it.
use native.Mathlib.Omega.{arith}
use Rattle.machine.specs.Machine.{Steady, Laws}
use Rattle.machine.proofs.Streams as streams
use Rattle.stages.proofs.Fronts.{whole_within_lem, some_octets, stays, stays-wrong}
use Rattle.captures.specs.Captures.{capture}

pub capture-steady : Steady capture
capture-steady =
    record {
      some = λ a s n e. (omega (arith, some_octets a, (whole_within_lem a s n e).0), (whole_within_lem a s n e).1);
      stays = stays;
      wrong = stays-wrong;
    }

pub capture_laws : Laws capture
capture_laws = streams.laws capture capture-steady
