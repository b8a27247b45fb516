-- `lm_fields::pair` meets its contract. One number after the other.
-- Assumes nothing.
use mathlib.Core.Path.{refl}
use Rattle.answer.proofs.Exits.{exit}
use Rattle.read_steps.proofs.Flow.{refused_part, continues_part}
use Rattle.whole.proofs.Aligned.{aligned_after, whole_number}
use Rattle.lm_fields.proofs.pair.Goals as goal

pub returns-in_err-next : goal.returns-in_err-next
returns-in_err-next c = rw (exit _ c.from_residual.ensures.1) (refused_part _ _ c.in_err-next.ensures refl)

pub number-requires-2 : goal.number-requires-2
number-requires-2 c =
    (c.requires.0, aligned_after (whole_number c.args.early c.requires.2 c.requires.3) c.requires.1 c.in_ok-next.ensures refl, c.requires.4, c.requires.5)

pub returns : goal.returns
returns c = (continues_part _ _ c.in_ok-next.ensures refl).complete _ _ _ c.number-2.ensures
