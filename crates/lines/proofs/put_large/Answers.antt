-- `lines::put_large` meets its contract. The library's digits are the fewest that hold the number, so its decimal notation.
use mathlib.Core.Path.{sym, ◌∙◌}
use Rattle.lines.proofs.Decimal.{decimal-fewest}
use Rattle.lines.proofs.put_large.Goals as goal

pub returns-clause-appended : goal.returns-clause-appended
returns-clause-appended c =
    let p = c.decimal-count.ensures in
    rw (p.digits ∙ sym (decimal-fewest c.args.number c.decimal-count.result p.len)) at c.put_text.ensures
