-- The fields of every kind are whole octets.
-- Assumes nothing.
use mathlib.Core.Path.{refl}
use native.Mathlib.Omega.{arith}
use lib.IntN.{pos}
use Rattle.bits.specs.Bits.{width}
use Rattle.item.specs.Code.{variable}
use Rattle.whole.proofs.Aligned.{Whole, whole_stop, whole_then, whole_times, whole_one, whole_octet, whole_number, whole_pair, variable-octets}
use Rattle.lm_items.specs.Asked.{octet, two_octets, field_items}
use Rattle.lm_items.specs.declared.Kind.{Kind}
use Rattle.lm_items.specs.declared.Kind.TheVariants.{NullNetworking, InternalForwarding, NHopForwarding, Dissemination, Session, UserData}

pub whole_one_octet : Whole octet
unfolding octet
whole_one_octet = whole_octet

pub whole_two-octets : Whole two_octets
unfolding two_octets
whole_two-octets = whole_number 2 (omega arith) (omega arith)

pub whole_fields : (kind : Kind) → Whole (field_items kind)
unfolding field_items width
whole_fields NullNetworking = whole_stop
whole_fields InternalForwarding = whole_then whole_one_octet (whole_then whole_two-octets (whole_then (whole_times 8 whole_one_octet) whole_one_octet))
whole_fields NHopForwarding = whole_pair (pos 0) (pos 0) 4194303 3 refl
whole_fields Dissemination = whole_one variable variable-octets
whole_fields Session = whole_then whole_two-octets whole_two-octets
whole_fields UserData = whole_stop
