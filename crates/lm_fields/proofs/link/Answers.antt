-- `lm_fields::link` meets its contract. Eight octets, and a number of one.
-- Assumes nothing.
use mathlib.Core.Path.{refl}
use native.Mathlib.Omega.{arith}
use Rattle.answer.proofs.Exits.{exit}
use Rattle.items.specs.Items.{times}
use Rattle.read_steps.proofs.Flow.{refused_part, continues_part}
use Rattle.whole.proofs.Aligned.{aligned_after, whole_times}
use Rattle.lm_items.specs.Asked.{octet}
use Rattle.lm_fields.proofs.Wholes.{whole_one_octet}
use Rattle.lm_fields.proofs.link.Goals as goal

pub returns-in_err-next : goal.returns-in_err-next
unfolding octet
returns-in_err-next c = rw (exit _ c.from_residual.ensures.1) (refused_part (times 8 octet) octet c.in_err-next.ensures refl)

pub number-requires : goal.number-requires
unfolding octet
number-requires c =
    (c.requires.0, aligned_after (whole_times 8 whole_one_octet) c.requires.1 c.in_ok-next.ensures refl, omega arith, omega arith)

pub returns : goal.returns
unfolding octet
returns c =
    (continues_part (times 8 octet) octet c.in_ok-next.ensures refl).complete _ _ _ c.number.ensures
