use Prim.Native.Nat.{ℕ, ◌+◌, ◌≤◌}
use mathlib.Core.Bool.{true, false}
use mathlib.Core.Path.{◌≡◌, sym, ap, ◌∙◌}
use mathlib.Core.List.{List}
use native.Mathlib.Omega.{arith}
use lib.ListN.{length}
use Rattle.octets.specs.Numbers.{u16}
use Rattle.row.proofs.Fits.{RecordFits, record_fits}
use Rattle.encoding.specs.Guarded.{fits, leads, opens}
use Rattle.encoding.proofs.Guarded.{fits_below, fits_row}
use Rattle.guard.proofs.Laws.{first_apart, first_leads, no_more}
use Rattle.guard.proofs.record_opens.Goals as goal

-- a record that can be read
row-at : {st : List ℕ} {o : ℕ} (h : (6144 ≤ length st) × (fits st o ≡ true) × (u16 st (o + 2) ≡ 5)) → RecordFits (fits_row st o (omega arith) h.1)
row-at {st} {o} h = record_fits (fits_row st o (omega arith) h.1) h.2

pub count_at-fields-requires : goal.count_at-fields-requires
count_at-fields-requires c = omega (arith, (row-at c.requires).inside)

pub loop-field-init : goal.loop-field-init
unfolding opens
loop-field-init c = (omega arith, sym (ap (opens _ _) (row-at c.requires).is))

pub field_at-requires : goal.field_at-requires
field_at-requires c = omega (arith, c.loop-field-test.true, (row-at c.requires).inside, c.count_at-fields.ensures.0)

pub leads-requires : goal.leads-requires
leads-requires c = (c.requires.0, omega (arith, fits_below c.args.state.now c.args.at c.requires.1))

pub returns-then-not-leads : goal.returns-then-not-leads
returns-then-not-leads c =
    let a = c.args in
    let st = a.state.now in
    let apart : leads st a.at c.field_at.result ≡ false = sym c.leads.ensures ∙ c.if-not-leads.true in
    sym (first_apart st a.at (u16 st (a.at + 4)) c.loop-field.field c.field_at.result (omega arith) c.field_at.ensures.0 apart) ∙ c.loop-field.invariant.1

pub loop-field-preserved : goal.loop-field-preserved
loop-field-preserved c =
    let a = c.args in
    let st = a.state.now in
    let led : leads st a.at c.field_at.result ≡ true = sym c.leads.ensures ∙ c.if-not-leads.false in (
      omega arith,
      sym (first_leads st a.at (u16 st (a.at + 4)) c.loop-field.field c.field_at.result (omega arith) c.field_at.ensures.0 led) ∙ c.loop-field.invariant.1,
    )

pub returns : goal.returns
returns c =
    let a = c.args in
    let st = a.state.now in
    let e : c.loop-field.field ≡ u16 st (a.at + 4) = omega arith in
    sym (no_more st a.at (u16 st (a.at + 4)) c.loop-field.field e) ∙ c.loop-field.invariant.1
