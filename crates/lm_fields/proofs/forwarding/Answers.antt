-- `lm_fields::forwarding` meets its contract. One part after the other.
-- Assumes nothing.
use mathlib.Core.Path.{refl}
use Rattle.answer.proofs.Exits.{exit}
use Rattle.items.specs.Items.{◌then◌, one, times}
use Rattle.read_steps.proofs.Flow.{refused_part, continues_part}
use Rattle.whole.proofs.Aligned.{aligned_after, whole_then}
use Rattle.lm_items.specs.Asked.{octet, two_octets, field_items}
use Rattle.lm_fields.proofs.Wholes.{whole_one_octet, whole_two-octets}
use Rattle.lm_fields.proofs.forwarding.Goals as goal

pub returns-in_err-next : goal.returns-in_err-next
unfolding field_items octet two_octets one
returns-in_err-next c =
    rw (exit _ c.from_residual.ensures.1) (refused_part (octet then two_octets) (times 8 octet then octet) c.in_err-next.ensures refl)

pub link-requires : goal.link-requires
unfolding field_items octet two_octets one
link-requires c =
    (c.requires.0, aligned_after (whole_then whole_one_octet whole_two-octets) c.requires.1 c.in_ok-next.ensures refl)

pub returns : goal.returns
unfolding field_items octet two_octets one
returns c =
    (continues_part (octet then two_octets) (times 8 octet then octet) c.in_ok-next.ensures refl).complete _ _ _ c.link.ensures
