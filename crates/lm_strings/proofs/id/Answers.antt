-- `lm_strings::id` meets its contract. User data has none; an element's is one octet.
-- Assumes nothing.
use Rattle.read_steps.proofs.Flow.{reads_nothing}
use Rattle.lm_items.specs.Asked.{octet}
use Rattle.lm_strings.proofs.id.Goals as goal

pub returns-then-is_content : goal.returns-then-is_content
returns-then-is_content c = rw (← c.is_content.ensures, c.if-is_content.true) reads_nothing

pub returns : goal.returns
unfolding octet
returns c =
    rw (← c.is_content.ensures, c.if-is_content.false) c.number.ensures
