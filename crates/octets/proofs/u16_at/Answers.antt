-- `octets::u16_at` meets its contract. The library reads two octets so.
use borrow.Author.Rules.{rules}
use Rattle.octets.specs.Numbers.{u16}
use Rattle.octets.proofs.u16_at.Goals as goal

pub returns : goal.returns
unfolding u16
returns c = search rules
