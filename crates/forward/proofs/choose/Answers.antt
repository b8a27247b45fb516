-- `forward::choose` meets its contract: its tests are the definition's, in order.
use borrow.Author.Rules.{rules}
use Rattle.forward.specs.Parts.{chosen}
use Rattle.forward.proofs.choose.Goals as goal

pub returns-then-held-count : goal.returns-then-held-count
unfolding chosen
returns-then-held-count c = search rules

pub returns-then-count-free : goal.returns-then-count-free
unfolding chosen
returns-then-count-free c = search rules

pub returns-then-not-fits : goal.returns-then-not-fits
unfolding chosen
returns-then-not-fits c = search rules

pub returns : goal.returns
unfolding chosen
returns c = search rules
