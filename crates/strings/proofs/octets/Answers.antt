-- `strings::octets` meets its contract. A length, read and kept; then the octets.
-- Assumes nothing.
use mathlib.Core.Path.{refl}
use borrow.Author.Rules.{rules}
use Rattle.item.specs.Code.{length_within}
use Rattle.answer.proofs.Exits.{exit}
use Rattle.read_steps.specs.Reads.{state_at}
use Rattle.read_steps.proofs.Keeping.{Keeping, keeping-value, count-held, item-refused, first_refused, first-kept, reads_one}
use Rattle.whole.proofs.Aligned.{aligned_after, whole_one, length-octets}
use Rattle.strings.proofs.octets.Goals as goal

pub returns-in_err-length : goal.returns-in_err-length
returns-in_err-length c =
    rw (exit _ c.from_residual.ensures.1) (item-refused (length_within c.args.least 16383) _ refl _ refl c.length.ensures c.in_err-length.was)

pub returns-in_err-next : goal.returns-in_err-next
returns-in_err-next c =
    let kept = keeping-value (length_within c.args.least 16383) refl (search rules) c.length.ensures c.in_ok-length.was c.keep.ensures in
    rw (exit _ c.from_residual-in_err-next.ensures.1) (first_refused _ _ refl kept c.in_err-next.was)

pub run-requires : goal.run-requires
run-requires c =
    let a = c.args in
    let kept : Keeping (length_within a.least 16383) a.message.now a.room (state_at a.cursor a.values.now a.packed.now) _ _ _ _ = keeping-value _ refl (search rules) c.length.ensures c.in_ok-length.was c.keep.ensures in
    (c.requires.0, aligned_after (whole_one _ (length-octets a.least 16383)) c.requires.1 (reads_one c.keep.result kept) c.in_ok-next.was)

pub returns : goal.returns
returns c =
    let kept = keeping-value (length_within c.args.least 16383) refl (search rules) c.length.ensures c.in_ok-length.was c.keep.ensures in
    (first-kept _ _ refl kept c.in_ok-next.was).complete _ _ _
    (rw (count-held c.in_ok-length.length (search rules) c.count_of-count.ensures) at c.run.ensures)
