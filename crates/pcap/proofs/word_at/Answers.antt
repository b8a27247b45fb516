-- `pcap::word_at` meets its contract: the four octets, from either end.
use borrow.Author.Rules.{rules}
use Rattle.pcap.specs.Pcap.{word}
use Rattle.pcap.proofs.word_at.Goals as goal

pub returns-in-Little : goal.returns-in-Little
unfolding word
returns-in-Little c = search rules

pub returns-in-Big : goal.returns-in-Big
unfolding word
returns-in-Big c = search rules
