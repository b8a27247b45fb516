-- `rules::length_right` meets its contract. A row that is too short for its kind with nothing counted is too short with any count.
use borrow.Author.Tests.{lt-leb, ne_eqb}
use native.Mathlib.Omega.{arith}
use Rattle.row.specs.Kinds.{length_of, count_of}
use Rattle.row.proofs.ByKind.{least-length}
use Rattle.rules.proofs.length_right.Goals as goal

pub returns-else-length-size : goal.returns-else-length-size
returns-else-length-size c =
    let m = count_of c.args.table.now c.args.at c.args.kind in
    rw (
      lt-leb c.length.result c.args.size c.if-length-size.false,
      ne_eqb c.args.size (length_of c.args.kind m) (λ e. omega (arith, least-length c.args.kind m c.requires.1)),
    )
