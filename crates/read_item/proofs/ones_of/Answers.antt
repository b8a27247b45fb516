-- `read_item::ones_of` meets its contract. Each test asks for one more of the octet's top bits.
use native.Mathlib.Omega.{arith}
use mathlib.Core.Path.{sym, ap, ◌∙◌}
use Prim.Native.Nat.{suc, ◌-◌}
use Rattle.item.proofs.Leading.{ones-clear, ones-set}
use Rattle.read_item.proofs.ones_of.Goals as goal

pub returns-then-first-lt128 : goal.returns-then-first-lt128
returns-then-first-lt128 c = sym (ones-clear 3 7 c.args.first (omega arith))

pub returns-then-first-lt192 : goal.returns-then-first-lt192
returns-then-first-lt192 c =
    let n = c.args.first in
    sym (ones-set 3 7 n (omega arith) ∙ ap suc (ones-clear 2 6 (n - 128) (omega arith)))

pub returns-then-first-lt224 : goal.returns-then-first-lt224
returns-then-first-lt224 c =
    let n = c.args.first in
    sym (ones-set 3 7 n (omega arith) ∙ ap suc (ones-set 2 6 (n - 128) (omega arith) ∙ ap suc (ones-clear 1 5 (n - 128 - 64) (omega arith))))

pub returns-then-first-lt240 : goal.returns-then-first-lt240
returns-then-first-lt240 c =
    let n = c.args.first in
    sym
    (ones-set 3 7 n (omega arith)
    ∙ ap suc (ones-set 2 6 (n - 128) (omega arith)
    ∙ ap suc (ones-set 1 5 (n - 128 - 64) (omega arith) ∙ ap suc (ones-clear 0 4 (n - 128 - 64 - 32) (omega arith)))))

pub returns-else-first-lt240 : goal.returns-else-first-lt240
returns-else-first-lt240 c =
    let n = c.args.first in
    sym
    (ones-set 3 7 n (omega arith)
    ∙ ap suc (ones-set 2 6 (n - 128) (omega arith)
    ∙ ap suc (ones-set 1 5 (n - 128 - 64) (omega arith) ∙ ap suc (ones-set 0 4 (n - 128 - 64 - 32) (omega arith)))))
