-- Octets behind their length are whole octets.
-- Assumes nothing.
use Prim.Native.Nat.{ℕ}
use lib.IntN.{pos}
use Rattle.item.specs.Code.{number, length_within, natural}
use Rattle.items.specs.Items.{one, times}
use Rattle.encoding.specs.Rows.{octets_within}
use Rattle.whole.proofs.Aligned.{Whole, whole_octet, whole_times, whole_ask, length-octets}

pub whole_octets : (least most : ℕ) → Whole (octets_within least most)
whole_octets least most = whole_ask (length_within least most) (λ v. times (natural v) (one (number (pos 0) 255))) (length-octets least most) (λ v. whole_times (natural v) whole_octet)
