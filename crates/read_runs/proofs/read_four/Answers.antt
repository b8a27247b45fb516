-- `read_runs::read_four` meets its contract. Each value is the octet that stands there: read by itself, or cut out of five octets.
use native.Mathlib.Omega.{arith}
use borrow.Author.Rules.{rules}
use lib.ListN.{set, length-set}
use Rattle.read_runs.proofs.Copying.{four-read, four-cut}
use Rattle.read_runs.proofs.read_four.Goals as goal

pub returns-then-into-eq0 : goal.returns-then-into-eq0
returns-then-into-eq0 c =
    let a = c.args in
    four-read set a.message.now a.from a.into a.at a.values.now _ _ _ _
    c.octet_at.ensures c.octet_at-then-into-eq0.ensures c.octet_at-then-into-eq0-2.ensures c.octet_at-then-into-eq0-3.ensures

pub returns : goal.returns
returns c =
    let a = c.args in
    four-cut set a.message.now a.from a.into a.at a.values.now
    (λ i. search rules) c.window_inside.result c.window_inside.ensures.0 (omega arith) (omega arith)

pub bounds-values-at-then-into-eq0 : goal.bounds-values-at-then-into-eq0
bounds-values-at-then-into-eq0 c = simp length-set (omega arith)

pub bounds-values-at-then-into-eq0-2 : goal.bounds-values-at-then-into-eq0-2
bounds-values-at-then-into-eq0-2 c = simp length-set (omega arith)

pub bounds-values-at-then-into-eq0-3 : goal.bounds-values-at-then-into-eq0-3
bounds-values-at-then-into-eq0-3 c = simp length-set (omega arith)

pub bounds-values-at-3 : goal.bounds-values-at-3
bounds-values-at-3 c = simp length-set (omega arith)

pub bounds-values-at-4 : goal.bounds-values-at-4
bounds-values-at-4 c = simp length-set (omega arith)

pub bounds-values-at-5 : goal.bounds-values-at-5
bounds-values-at-5 c = simp length-set (omega arith)
