-- `read_item::index` meets its contract. Each way out is one outcome of the item; the branches are as many as the contract says.
use native.Mathlib.Omega.{arith}
use mathlib.Core.Path.{sym, ap, ◌∙◌}
use mathlib.Core.Bool.{Bool}
use mathlib.Core.List.{List}
use Prim.Native.Nat.{◌-◌}
use lib.ListN.{drop}
use mir.Syntax.{w64}
use Rattle.std.proofs.Common.{Ok, Err}
use Rattle.std.proofs.lemmas.Int.{to_z_pos}
use Rattle.bits.specs.Bits.{width, unpack}
use Rattle.item.specs.Code.{index_width}
use Rattle.item.specs.Answers.{branches_at}
use Rattle.item.proofs.Branches.{length-branches}
use Rattle.item.proofs.Returned.{returned}
use Rattle.read_item.proofs.Outcomes.{front-Ok, front-Err, index_short, index_is}
use Rattle.read_item.proofs.index.Goals as goal

pub returns-in_err-n : goal.returns-in_err-n
returns-in_err-n c =
    let a = c.args in
    let p = a.place.0 in
    let b : List Bool = drop p (unpack a.message.now) in
    let branches : List Bool = branches_at a.table.now a.from a.m in
    let w = c.width.ensures.0 ∙ ap (λ n. width (n - 1)) (sym (length-branches a.table.now a.from a.m)) in
    let e = front-Err b p (index_width branches) (rw w at (sym c.bits_at.ensures ∙ c.in_err-n.was)) in
    returned c.from_residual.result c.from_residual.ensures ∙ ap Err (sym e.1) ∙ sym (index_short branches b p e.0)

pub returns-then-has_branch : goal.returns-then-has_branch
returns-then-has_branch c =
    let a = c.args in
    let p = a.place.0 in
    let b : List Bool = drop p (unpack a.message.now) in
    let branches : List Bool = branches_at a.table.now a.from a.m in
    let n = c.in_ok-n.n in
    let w = c.width.ensures.0 ∙ ap (λ n. width (n - 1)) (sym (length-branches a.table.now a.from a.m)) in
    let e = front-Ok b p (index_width branches) (rw w at (sym c.bits_at.ensures ∙ c.in_ok-n.was)) in
    rw c.from.ensures (ap (λ z. Ok (z, c.in_ok-n.next)) (to_z_pos w64 n (omega arith)))
    ∙ sym (rw (sym c.has_branch.ensures ∙ c.if-has_branch.true) at (index_is branches b p e))

pub returns : goal.returns
returns c =
    let a = c.args in
    let p = a.place.0 in
    let b : List Bool = drop p (unpack a.message.now) in
    let branches : List Bool = branches_at a.table.now a.from a.m in
    let w = c.width.ensures.0 ∙ ap (λ n. width (n - 1)) (sym (length-branches a.table.now a.from a.m)) in
    let e = front-Ok b p (index_width branches) (rw w at (sym c.bits_at.ensures ∙ c.in_ok-n.was)) in
    ap Err c.at_place.ensures ∙ sym (rw (sym c.has_branch.ensures ∙ c.if-has_branch.false) at (index_is branches b p e))
