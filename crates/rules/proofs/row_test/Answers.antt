-- `rules::row_test` meets its contract. Without room, past the end, or of no kind, that part is the first that breaks a rule; each arm
-- is the test of its kind.
use native.Mathlib.Omega.{arith}
use mathlib.Core.Bool.{false}
use mathlib.Core.Path.{◌≡◌}
use Rattle.row.specs.Rows.{within}
use Rattle.rules.specs.Steps.{spread}
use Rattle.std.proofs.lemmas.Bool.Decides.{nat_tests}
use Rattle.rules.proofs.Steps.{short-broken, outside-broken, kind-broken}
use Rattle.rules.proofs.row_test.Goals as goal

pub returns-then-left-lt-START : goal.returns-then-left-lt-START
returns-then-left-lt-START c = let a = c.args in short-broken a.table.now a.at (spread a.depths.now) (omega arith)

pub returns-then-left-size : goal.returns-then-left-size
returns-then-left-size c =
    let a = c.args in
    outside-broken a.table.now a.at (spread a.depths.now) c.length_at-size.result c.length_at-size.ensures.0 (omega arith)

pub returns-in_default : goal.returns-in_default
unfolding within
returns-in_default c =
    let a = c.args in
    let unknown : within 1 8 c.kind_at-kind.result ≡ false = grind (arith, nat_tests) in
    kind-broken a.table.now a.at (spread a.depths.now) c.length_at-size.result c.length_at-size.ensures.0 c.kind_at-kind.result c.kind_at-kind.ensures.0 (omega arith) (omega arith) unknown
