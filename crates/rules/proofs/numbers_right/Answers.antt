-- `rules::numbers_right` meets its contract: the count's two bounds, then the flags.
use borrow.Author.Tests.{le-leb, lt-leb}
use native.Mathlib.Omega.{arith}
use Prim.Native.Nat.{◌+◌}
use mathlib.Core.Bool.{◌&&◌}
use mathlib.Core.Path.{◌≡◌, sym, ap, ◌∙◌}
use Rattle.octets.specs.Numbers.{u16s}
use Rattle.row.specs.Rows.{within}
use Rattle.row.specs.Kinds.{least_count, most_count, flag_count}
use Rattle.row.proofs.ByKind.{length-flags}
use Rattle.rules.specs.Rules.{flags_in_bounds}
use Rattle.rules.proofs.numbers_right.Goals.{then-least_count-count, else-least_count-count}
use Rattle.rules.proofs.numbers_right.Goals as goal

pub flags_sound-requires : goal.flags_sound-requires
flags_sound-requires c =
    rw c.flag_count.ensures (λ some. omega (arith, length-flags c.args.kind c.args.count some, c.requires.0))

pub returns-then-count-most_count : goal.returns-then-count-most_count
unfolding within
returns-then-count-most_count c =
    let a = c.args in
    let bounds : c.if-least_count-count.value ≡ within (least_count a.kind) (most_count a.kind) a.count =
    elim c.if-least_count-count.branch [
      | then-least_count-count w ↦ rw (w.value-is, w.most_count.ensures, le-leb (least_count a.kind) a.count (omega arith))
      | else-least_count-count w ↦ rw (w.value-is, c.least_count.ensures, lt-leb (least_count a.kind) a.count (omega arith))
    ] in
    c.flags_sound.ensures
    ∙ ap (λ n. flags_in_bounds (u16s a.table.now (a.at + 8) 4 n)) c.flag_count.ensures
    ∙ ap (λ x. x && flags_in_bounds (u16s a.table.now (a.at + 8) 4 (flag_count a.kind a.count))) (sym c.if-count-most_count.true ∙ bounds)

pub returns-else-count-most_count : goal.returns-else-count-most_count
unfolding within
returns-else-count-most_count c =
    let a = c.args in
    let bounds : c.if-least_count-count.value ≡ within (least_count a.kind) (most_count a.kind) a.count =
    elim c.if-least_count-count.branch [
      | then-least_count-count w ↦ rw (w.value-is, w.most_count.ensures, le-leb (least_count a.kind) a.count (omega arith))
      | else-least_count-count w ↦ rw (w.value-is, c.least_count.ensures, lt-leb (least_count a.kind) a.count (omega arith))
    ] in
    rw (← bounds, c.if-count-most_count.false)
