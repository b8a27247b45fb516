-- `forward::head_of` meets its contract: its tests are the definition's, in order.
use borrow.Author.Rules.{rules}
use Rattle.forward.specs.Parts.{head_of}
use Rattle.forward.proofs.head_of.Goals as goal

pub returns-then-message-gt-MOST : goal.returns-then-message-gt-MOST
unfolding head_of
returns-then-message-gt-MOST c = search rules

pub returns-then-message-lt-HEAD : goal.returns-then-message-lt-HEAD
unfolding head_of
returns-then-message-lt-HEAD c = search rules

pub returns-then-version_of-ne-VERSION : goal.returns-then-version_of-ne-VERSION
unfolding head_of
returns-then-version_of-ne-VERSION c = search rules

pub returns-then-subtype_of-ne-N_HOP : goal.returns-then-subtype_of-ne-N_HOP
unfolding head_of
returns-then-subtype_of-ne-N_HOP c = search rules

pub returns-then-hops_of-eq0 : goal.returns-then-hops_of-eq0
unfolding head_of
returns-then-hops_of-eq0 c = search rules

pub returns : goal.returns
unfolding head_of
returns c = search rules
