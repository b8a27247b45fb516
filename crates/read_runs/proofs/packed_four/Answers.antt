-- `read_runs::packed_four` meets its contract. Each value is the octet that stands there: read by itself, or cut out of five octets.
use native.Mathlib.Omega.{arith}
use borrow.Author.Rules.{rules}
use Rattle.values.specs.Values.{set_value}
use Rattle.read_runs.proofs.Copying.{four-read, four-cut}
use Rattle.read_runs.proofs.packed_four.Goals as goal

pub returns-then-into-eq0 : goal.returns-then-into-eq0
returns-then-into-eq0 c =
    let a = c.args in
    rw (c.store_value-then-into-eq0-3.ensures, c.store_value-then-into-eq0-2.ensures, c.store_value-then-into-eq0.ensures, c.store_value.ensures)
    (four-read set_value a.message.now a.from a.into a.at a.packed.now _ _ _ _
    c.octet_at-first.ensures c.octet_at-second.ensures c.octet_at-third.ensures c.octet_at-fourth.ensures)

pub returns : goal.returns
returns c =
    let a = c.args in
    rw (c.store_value-5.ensures, c.store_value-4.ensures, c.store_value-3.ensures, c.store_value-2.ensures)
    (four-cut set_value a.message.now a.from a.into a.at a.packed.now
    (λ i. search rules) c.window_inside.result c.window_inside.ensures.0 (omega arith) (omega arith))
