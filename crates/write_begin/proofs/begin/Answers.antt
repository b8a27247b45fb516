-- `write_begin::begin` meets its contract. By the kind of the row.
-- Assumes nothing.
use Prim.Native.Nat.{ℕ, ◌+◌}
use mathlib.Core.Path.{◌≡◌, sym, ◌∙◌}
use mathlib.Core.List.{List}
use native.Mathlib.Omega.{arith}
use Rattle.octets.specs.Numbers.{u16}
use Rattle.rules.specs.Rules.{Obeys, Starts}
use Rattle.item.specs.Code.{variable}
use Rattle.item.proofs.Returned.{returned}
use Rattle.table.proofs.Obeyed.{earlier-starts, row-starts_inside, variable-row, fixed-row, last_kind}
use Rattle.items.specs.Items.{one}
use Rattle.encoding.specs.Rows.{items}
use Rattle.encoding.proofs.RowItems.{items-variable, items-fixed}
use Rattle.write_steps.proofs.Flow.{continues_same, continues-done}
use Rattle.write_begin.proofs.Beginnings.{begins-number, begins-run}
use Rattle.write_begin.proofs.begin.Goals as goal

pub kind_at-kind-requires : goal.kind_at-kind-requires
kind_at-kind-requires c =
    omega (arith, (row-starts_inside c.requires.0 c.requires.1).0)

pub count_at-count-requires : goal.count_at-count-requires
count_at-count-requires c =
    let k = sym c.kind_at-kind.ensures.0 ∙ c.in-3.is in
    omega (arith, (fixed-row c.requires.0 c.requires.1 k).1)

pub run_at-row-requires : goal.run_at-row-requires
run_at-row-requires c =
    let k = sym c.kind_at-kind.ensures.0 ∙ c.in-3.is in
    omega (arith, (fixed-row c.requires.0 c.requires.1 k).1)

pub run_of-requires : goal.run_of-requires
run_of-requires c =
    let k = sym c.kind_at-kind.ensures.0 ∙ c.in-3.is in
    rw c.run_at-row.ensures.0 (row-starts_inside c.requires.0 (earlier-starts c.requires.1 (fixed-row c.requires.0 c.requires.1 k).2)).0

pub octets-requires : goal.octets-requires
octets-requires c =
    let t = c.args.table.now in
    let kind = c.args.at + 2 in
    let k = c.kind_at-kind.ensures.0 in (
      c.requires.0,
      c.requires.1,
      last_kind c.requires.0 c.requires.1
          (λ (e : u16 t kind ≡ 1). omega (arith, k, e))
          (λ (e : u16 t kind ≡ 2). omega (arith, k, e))
          (λ (e : u16 t kind ≡ 3). omega (arith, k, e))
          (λ (e : u16 t kind ≡ 4). omega (arith, k, e))
          (λ (e : u16 t kind ≡ 5). omega (arith, k, e))
          c.requires.2,
      c.requires.3,
    )

pub returns-in-1 : goal.returns-in-1
returns-in-1 c =
    begins-number c.requires.0 c.requires.1 (sym c.kind_at-kind.ensures.0 ∙ c.in-1.is)

-- a variable number row asks for one
variable-items : {t : List ℕ} {at kind : ℕ} → Obeys t → Starts t at → kind ≡ u16 t (at + 2) → kind ≡ 2 → items t at ≡ one variable
variable-items {t} {at} obeys starts ek e = items-variable t at (variable-row obeys starts (sym ek ∙ e))

pub returns-in_ok-next-in-2 : goal.returns-in_ok-next-in-2
returns-in_ok-next-in-2 c =
    rw (variable-items c.requires.0 c.requires.1 c.kind_at-kind.ensures.0 c.in-2.is) (continues-done c.in_ok-next-in-2.ensures)

pub returns-in_err-next-in-2 : goal.returns-in_err-next-in-2
returns-in_err-next-in-2 c =
    rw (returned _ c.from_residual.ensures, variable-items c.requires.0 c.requires.1 c.kind_at-kind.ensures.0 c.in-2.is) c.in_err-next-in-2.ensures

pub returns-in-3 : goal.returns-in-3
returns-in-3 c =
    let k = sym c.kind_at-kind.ensures.0 ∙ c.in-3.is in
    let row = fixed-row c.requires.0 c.requires.1 k in
    rw (c.run_of.ensures, c.count_at-count.ensures.0, c.run_at-row.ensures.0)
    (begins-run c.requires.0 c.args.at _ _ c.requires.1.1 row.2 (continues_same (items-fixed c.args.table.now c.args.at _ _ row.0 row.2.1)))

pub returns-in_ok-next-in_default : goal.returns-in_ok-next-in_default
returns-in_ok-next-in_default c = continues-done c.in_ok-next-in_default.ensures
