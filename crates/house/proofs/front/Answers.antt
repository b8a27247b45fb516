-- `house::front` meets its contract: its tests are the definition's, in order.
use borrow.Author.Rules.{rules}
use Rattle.house.specs.House.{first_frame}
use Rattle.house.proofs.front.Goals as goal

pub returns-then-octets-lt-HEADER-clause-value : goal.returns-then-octets-lt-HEADER-clause-value
unfolding first_frame
returns-then-octets-lt-HEADER-clause-value c = search rules

pub returns-then-length-lt-HEADER-clause-value : goal.returns-then-length-lt-HEADER-clause-value
unfolding first_frame
returns-then-length-lt-HEADER-clause-value c = search rules

pub returns-then-octets-length-clause-value : goal.returns-then-octets-length-clause-value
unfolding first_frame
returns-then-octets-length-clause-value c = search rules

pub returns-clause-value : goal.returns-clause-value
unfolding first_frame
returns-clause-value c = search rules
