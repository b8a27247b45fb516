-- `lm_strings::string` meets its contract. One part after the other.
-- Assumes nothing.
use mathlib.Core.Path.{refl}
use Rattle.answer.proofs.Exits.{exit}
use Rattle.encoding.specs.Rows.{octets_within}
use Rattle.read_steps.proofs.Flow.{refused_part, continues_part}
use Rattle.whole.proofs.Aligned.{aligned_after}
use Rattle.lm_items.specs.Asked.{least, id_items, string_items}
use Rattle.lm_strings.proofs.Wholes.{whole_id}
use Rattle.lm_strings.proofs.string.Goals as goal

pub returns-in_err-next : goal.returns-in_err-next
unfolding string_items
returns-in_err-next c =
    let kind = c.args.kind in
    rw (exit _ c.from_residual.ensures.1) (refused_part (id_items kind) (octets_within (least kind) 16383) c.in_err-next.ensures refl)

pub octets-requires : goal.octets-requires
octets-requires c = (c.requires.0, aligned_after (whole_id c.args.kind) c.requires.1 c.in_ok-next.ensures refl)

pub returns : goal.returns
unfolding string_items
returns c =
    let kind = c.args.kind in
    (continues_part (id_items kind) (octets_within (least kind) 16383) c.in_ok-next.ensures refl).complete _ _ _
    (rw c.least-least.ensures at c.octets.ensures)
