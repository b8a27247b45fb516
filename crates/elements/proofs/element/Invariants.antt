-- `elements::element` meets its contract. The loop's invariant: what a search from an entry on answers is document 01's answer.
-- It holds at the first entry by the rule of the whole table, proved once in Search.antt.
use mathlib.Core.Path.{◌≡◌}
use lib.ListN.{drop}
use Rattle.elements.specs.Elements.{element_word}
use Rattle.elements.proofs.Search.{known, seek}
use Rattle.elements.proofs.element.Given as goal

abbrev pub invariant-loop-k : goal.invariant-loop-k
invariant-loop-k l = seek l.id l.home (drop l.k-index known) ≡ element_word l.id l.home
