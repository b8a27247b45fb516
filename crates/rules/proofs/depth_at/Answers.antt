-- `rules::depth_at` meets its contract. No odd offset has a depth, and none past the end.
use native.Mathlib.Omega.{arith}
use borrow.Author.Rules.{rules}
use mathlib.Core.Path.{◌≡◌, sym, ◌∙◌}
use Prim.Native.Nat.{◌/◌}
use lib.ListN.{get_or}
use Rattle.rules.proofs.Halves.{spread-even, spread-odd}
use Rattle.rules.proofs.depth_at.Goals as goal

pub returns-then-at-ne0 : goal.returns-then-at-ne0
returns-then-at-ne0 c = sym (spread-odd c.args.depths.now c.args.at (omega arith))

pub returns : goal.returns
returns c =
    let read : c.unwrap_or.result ≡ get_or c.args.depths.now (c.args.at / 2) 0 = search rules in
    read ∙ sym (spread-even c.args.depths.now c.args.at (omega arith))
