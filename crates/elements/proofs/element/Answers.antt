-- `elements::element` meets its contract: entry by entry, as the search goes.
use mathlib.Core.Bool.{true, false}
use mathlib.Core.Path.{sym, ap, ◌∙◌}
use native.Mathlib.Omega.{arith}
use lib.ListN.{drop_of_length-le}
use borrow.Author.Tests.{le-ltb, eq-eqb, ne_eqb}
use Rattle.elements.specs.Elements.{home_of, element_word}
use Rattle.elements.proofs.Search.{known, seek, seek_known, seek_on, seek_found}
use Rattle.elements.proofs.element.Goals as goal

pub returns-then-home-ge-HOMES : goal.returns-then-home-ge-HOMES
unfolding element_word
returns-then-home-ge-HOMES c = rw (le-ltb c.args.home 3 (omega arith))

pub loop-k-init : goal.loop-k-init
loop-k-init c = seek_known c.args.id c.args.home (omega arith)

pub returns-then-from-home : goal.returns-then-from-home
unfolding known
returns-then-from-home c =
    ap home_of
    (sym (seek_found _ _ known c.loop-k.k-index _ (omega arith) (eq-eqb _ _ (sym c.from.ensures ∙ c.if-from-id.true)) true (eq-eqb _ _ (sym c.from-then-from-id.ensures ∙ c.if-from-home.true)))
    ∙ c.loop-k.invariant)

pub returns-then-from-id : goal.returns-then-from-id
unfolding known
returns-then-from-id c =
    ap home_of
    (sym (seek_found _ _ known c.loop-k.k-index _ (omega arith) (eq-eqb _ _ (sym c.from.ensures ∙ c.if-from-id.true)) false (ne_eqb _ _ (λ e. c.if-from-home.false (c.from-then-from-id.ensures ∙ e))))
    ∙ c.loop-k.invariant)

pub loop-k-preserved : goal.loop-k-preserved
unfolding known
loop-k-preserved c = seek_on _ _ known c.loop-k.k-index _ (omega arith) (ne_eqb _ _ (λ e. c.if-from-id.false (c.from.ensures ∙ e))) ∙ c.loop-k.invariant

pub returns : goal.returns
unfolding known
returns c = ap home_of (sym (ap (seek _ _) (drop_of_length-le known c.loop-k-test.false)) ∙ c.loop-k.invariant)
