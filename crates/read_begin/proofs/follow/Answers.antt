use Prim.Native.Nat.{ℕ, ◌+◌}
use mathlib.Core.Bool.{false}
use mathlib.Core.Path.{◌≡◌, refl, sym, ap, ◌∙◌}
use native.Mathlib.Omega.{arith}
use borrow.Author.Rules.{rules}
use Rattle.octets.specs.Numbers.{u16}
use Rattle.encoding.specs.Guarded.{leads}
use Rattle.encoding.proofs.Guarded.{fits_below}
use Rattle.guard.proofs.Readable.{Reached, reached-table, reached-led, branch_never}
use Rattle.read_steps.proofs.Flow.{continues-trans, continues_same}
use Rattle.read_begin.proofs.Beginnings.{never_reads}
use Rattle.answer.proofs.Exits.{exit}
use Rattle.read_begin.proofs.follow.Goals as goal
use Rattle.read_begin.proofs.follow.Goals.{Joined-else-table-gt-MOST_TABLE, else-table-gt-MOST_TABLE-via-then-table-gt-MOST_TABLE+else-not-leads, else-table-gt-MOST_TABLE-via-else-table-gt-MOST_TABLE}

pub loop-values-init : goal.loop-values-init
loop-values-init c = (c.requires.0, omega arith, (λ n. refl), refl, refl, continues_same refl)

pub kind_at-requires : goal.kind_at-requires
kind_at-requires c = c.loop-values.invariant.0.row.start

pub choose-requires : goal.choose-requires
choose-requires c = (c.loop-values.invariant.0, sym c.kind_at.ensures.0 ∙ c.loop-values-test.true, c.requires.1)

pub returns-in_err-branch : goal.returns-in_err-branch
returns-in_err-branch c =
    rw (exit _ c.from_residual.ensures.1) (c.loop-values.invariant.5.complete _ _ _ c.in_err-branch.ensures)

pub leads-requires : goal.leads-requires
leads-requires c =
    let held = c.loop-values.invariant.0.state c.if-table-gt-MOST_TABLE.true in
    (held.0, omega (arith, fits_below c.args.table.now c.loop-values.row held.1))

pub returns-then-not-leads : goal.returns-then-not-leads
returns-then-not-leads c =
    let t = c.args.table.now in
    let chosen = c.in_ok-branch.ensures in
    let apart : leads t c.loop-values.row c.in_ok-branch.branch ≡ false = sym c.leads.ensures ∙ c.if-not-leads.true in
    rw c.unreadable.ensures
    ((continues-trans c.loop-values.invariant.5 (continues-trans chosen.2 (continues_same (branch_never t c.loop-values.row _ c.if-table-gt-MOST_TABLE.true chosen.1 apart)))).complete _ _ _ (never_reads _))

-- a branch that the loop goes on with
reached : (c : Joined-else-table-gt-MOST_TABLE) → Reached c.args.table.now c.loop-values.row c.in_ok-branch.branch
reached c =
    let row = c.loop-values.invariant.0 in
    let chosen = c.in_ok-branch.ensures in
    elim c.else-table-gt-MOST_TABLE.branch [
      | else-table-gt-MOST_TABLE-via-then-table-gt-MOST_TABLE+else-not-leads w ↦
          reached-led row w.if-table-gt-MOST_TABLE.true chosen.1 (sym w.leads.ensures ∙ w.if-not-leads.false)
      | else-table-gt-MOST_TABLE-via-else-table-gt-MOST_TABLE w ↦ reached-table row w.if-table-gt-MOST_TABLE.false chosen.0
    ]

pub loop-values-smaller : goal.loop-values-smaller
loop-values-smaller c = (reached c).below

pub loop-values-preserved : goal.loop-values-preserved
loop-values-preserved c =
    let chosen = c.in_ok-branch.ensures in
    let on = reached c in
    let kind = sym c.kind_at.ensures.0 ∙ c.loop-values-test.true in (
      on.readable,
      omega (arith, c.loop-values.invariant.1, on.below),
      (λ n. absurd (n (ap (λ (x : ℕ). u16 c.args.table.now (x + 2)) (sym (c.loop-values.invariant.2 n)) ∙ kind))),
      search rules,
      search rules,
      continues-trans c.loop-values.invariant.5 (continues-trans chosen.2 (continues_same on.same)),
    )

pub returns : goal.returns
returns c =
    let inv = c.loop-values.invariant in
    (inv.0, inv.1, (λ e. c.loop-values-test.false (c.kind_at.ensures.0 ∙ e)), inv.2, inv.5)
