-- `read_begin::choose` meets its contract. An index, read and kept, leaves the row of its branch.
-- Assumes nothing.
use Prim.Native.Nat.{ℕ, ◌+◌}
use mathlib.Core.Path.{◌≡◌, ap, ◌∙◌}
use mathlib.Core.List.{List}
use native.Mathlib.Omega.{arith}
use borrow.Author.Rules.{rules}
use lib.ListN.{get_or}
use Rattle.octets.specs.Numbers.{u16, u16s}
use Rattle.item.specs.Code.{index, natural}
use Rattle.item.specs.Answers.{branches_at}
use Rattle.row.proofs.Fits.{choice_fits}
use Rattle.items.specs.Items.{ask}
use Rattle.encoding.proofs.RowItems.{asks-choice}
use Rattle.parts.proofs.Choices.{picked}
use Rattle.guard.specs.Readable.{asks_at, asks_from, Readable}
use Rattle.guard.proofs.Readable.{asks-row, choice-opened}
use Rattle.read_steps.proofs.Flow.{continues-trans, continues_same}
use Rattle.read_steps.proofs.Keeping.{keeping-value, count-held, item-refused, kept_allowed, first_refused, first-kept}
use Rattle.answer.proofs.Exits.{exit}
use Rattle.read_begin.proofs.choose.Goals as goal

-- what the row asks for
row-items : {t : List ℕ} {o : ℕ} → Readable t o → u16 t (o + 2) ≡ 6
    → asks_at t o ≡ ask (index (branches_at t (o + 6) (u16 t (o + 4)))) (λ v. asks_from t o (get_or (u16s t (o + 6) 2 (u16 t (o + 4))) (natural v) 65535))
row-items {t} {o} h k = asks-row (choice-opened h k) ∙ asks-choice (asks_from t o) t o _ (choice_fits h.row k).is

-- the index that is read is the row's
index-asked : (t : List ℕ) (o : ℕ) {n : ℕ} → n ≡ u16 t (o + 4) → index (branches_at t (o + 6) n) ≡ index (branches_at t (o + 6) (u16 t (o + 4)))
index-asked t o e = ap (λ (m : ℕ). index (branches_at t (o + 6) m)) e

pub count_at-branches-requires : goal.count_at-branches-requires
count_at-branches-requires c = omega (arith, (choice_fits c.requires.0.row c.requires.1).inside)

pub index-requires : goal.index-requires
index-requires c =
    let row = choice_fits c.requires.0.row c.requires.1 in
    search rules

pub returns-in_err-index : goal.returns-in_err-index
returns-in_err-index c =
    let a = c.args in
    let asked = index-asked a.table.now a.at c.count_at-branches.ensures.0 in
    rw (exit _ c.from_residual.ensures.1) (item-refused _ _ (row-items c.requires.0 c.requires.1) _ asked c.index.ensures c.in_err-index.was)

pub returns-in_err-next : goal.returns-in_err-next
returns-in_err-next c =
    let a = c.args in
    let index-kept = keeping-value _ (index-asked a.table.now a.at c.count_at-branches.ensures.0) (search rules) c.index.ensures c.in_ok-index.was c.keep.ensures in
    rw (exit _ c.from_residual-in_err-next.ensures.1) (first_refused _ _ (row-items c.requires.0 c.requires.1) index-kept c.in_err-next.was)

pub branch_at-requires : goal.branch_at-requires
branch_at-requires c =
    let a = c.args in
    let v = c.in_ok-index.index in
    let index-kept = keeping-value _ (index-asked a.table.now a.at c.count_at-branches.ensures.0) (search rules) c.index.ensures c.in_ok-index.was c.keep.ensures in
    let branch = picked c.requires.0.row c.requires.1 v (kept_allowed index-kept c.in_ok-next.was) in
    omega (arith, branch.inside, count-held v (search rules) c.count_of.ensures)

pub returns : goal.returns
returns c =
    let a = c.args in
    let v = c.in_ok-index.index in
    let index-kept = keeping-value _ (index-asked a.table.now a.at c.count_at-branches.ensures.0) (search rules) c.index.ensures c.in_ok-index.was c.keep.ensures in
    let branch = picked c.requires.0.row c.requires.1 v (kept_allowed index-kept c.in_ok-next.was) in
    rw (c.branch_at.ensures.0, count-held v (search rules) c.count_of.ensures)
    (branch.referred, branch.is, continues-trans (first-kept _ _ (row-items c.requires.0 c.requires.1) index-kept c.in_ok-next.was) (continues_same (ap (asks_from a.table.now a.at) branch.same)))
