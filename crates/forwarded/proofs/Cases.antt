-- The cases, by computation.
use mathlib.Core.Path.{refl}
use Rattle.bits.specs.Bits.{number_of, bits_of, unpack, pack}
use Rattle.forward.specs.Forward.{subtype, version, message_id, hop_count, forward_answer, lowered}
use Rattle.forwarded.specs.Cases.{cases, ForwardingCases}

pub forwarding-cases : ForwardingCases
unfolding cases forward_answer lowered subtype version message_id hop_count number_of bits_of unpack pack
forwarding-cases = record { all = refl }
