use Prim.Native.Nat.{ℕ, suc, ◌+◌, ◌-◌, ◌<◌}
use mathlib.Core.Bool.{false}
use mathlib.Core.Path.{◌≡◌, refl, sym, ap, ◌∙◌}
use native.Mathlib.Omega.{arith}
use borrow.Author.Rules.{rules}
use lib.ListN.{get_or}
use Rattle.octets.specs.Numbers.{u16}
use Rattle.bits.specs.Bits.{bits_of}
use Rattle.item.proofs.Returned.{returned}
use Rattle.row.proofs.Bools.{inside_within}
use Rattle.table.proofs.Obeyed.{earlier-starts, row-starts_inside, number-row, variable-row, record-row}
use Rattle.items.specs.Items.{Items, ◌then◌, times}
use Rattle.encoding.specs.Rows.{items}
use Rattle.encoding.proofs.RowItems.{items-number, items-variable}
use Rattle.items.proofs.Runs.{times_none, times_more}
use Rattle.parts.proofs.Records.{fields-start, fields_end, fields_next}
use Rattle.write_steps.specs.Writes.{list_in}
use Rattle.write_steps.proofs.Flow.{continues-trans, continues_same, continues_end, continues_part, refused_part, writes_nothing}
use Rattle.writer.proofs.+write_chosen_write_field_write_fields_write_row_write_run.Goals as goal

-- ── a row that is no choice ──

pub write_chosen-returns-in-Nothing : goal.write_chosen-returns-in-Nothing
write_chosen-returns-in-Nothing t c = continues_end (rw c.in-Nothing.is at c.in_ok-left.ensures)

-- ── one field ──

pub write_field-returns-then-not-present : goal.write_field-returns-then-not-present
write_field-returns-then-not-present t c =
    let a = c.args in
    rw c.if-not-present.true (writes_nothing (list_in a.values.now a.packed.now) a.cursor a.output.now)

pub write_field-kind_at-kind-requires : goal.write_field-kind_at-kind-requires
write_field-kind_at-kind-requires t c =
    let pre = c.requires in
    (row-starts_inside pre.0 (earlier-starts pre.1 pre.2)).0

pub write_field-number-requires : goal.write_field-number-requires
write_field-number-requires t c =
    let pre = c.requires in
    ((number-row pre.0 (earlier-starts pre.1 pre.2) (sym c.kind_at-kind.ensures.0 ∙ c.in-1.is)).1, search rules)

pub write_field-octets-requires : goal.write_field-octets-requires
write_field-octets-requires t c =
    let pre = c.requires in
    let octets = inside_within 7 8 c.kind_at-kind.result (omega arith) (omega arith) in
    (pre.0, earlier-starts pre.1 pre.2, rw c.kind_at-kind.ensures.0 at octets, search rules)

pub write_field-returns-in-1 : goal.write_field-returns-in-1
write_field-returns-in-1 t c =
    let pre = c.requires in
    let row = number-row pre.0 (earlier-starts pre.1 pre.2) (sym c.kind_at-kind.ensures.0 ∙ c.in-1.is) in
    rw (c.if-not-present.false, items-number c.args.table.now c.args.row _ _ row.0) c.number.ensures

pub write_field-returns-in-2 : goal.write_field-returns-in-2
write_field-returns-in-2 t c =
    let pre = c.requires in
    let row = variable-row pre.0 (earlier-starts pre.1 pre.2) (sym c.kind_at-kind.ensures.0 ∙ c.in-2.is) in
    rw (c.if-not-present.false, items-variable c.args.table.now c.args.row row) c.variable.ensures

-- ── the fields of a record ──

pub write_fields-count_at-fields-requires : goal.write_fields-count_at-fields-requires
write_fields-count_at-fields-requires t c = omega (arith, (record-row c.requires.0 c.requires.1 c.requires.2).inside)

pub write_fields-loop-field-init : goal.write_fields-loop-field-init
write_fields-loop-field-init t c =
    let a = c.args in
    (refl, continues_same (fields-start (items a.table.now) a.table.now a.at a.mask))

pub write_fields-field_at-row-requires : goal.write_fields-field_at-row-requires
write_fields-field_at-row-requires t c =
    omega (arith, c.count_at-fields.ensures.0, (record-row c.requires.0 c.requires.1 c.requires.2).inside)

pub write_fields-is_marked-present-requires : goal.write_fields-is_marked-present-requires
write_fields-is_marked-present-requires t c =
    let e = c.count_at-fields.ensures.0 in
    (omega arith, omega (arith, (record-row c.requires.0 c.requires.1 c.requires.2).most), rw e c.requires.3)

pub write_fields-write_field-requires : goal.write_fields-write_field-requires
write_fields-write_field-requires t c =
    let pre = c.requires in
    let field = (record-row pre.0 pre.1 pre.2).field c.loop-field.field (omega (arith, c.count_at-fields.ensures.0)) in
    (omega arith, (pre.0, pre.1, rw c.field_at-row.ensures.0 field, search rules))

pub write_fields-returns-in_err-here : goal.write_fields-returns-in_err-here
write_fields-returns-in_err-here t c =
    let a = c.args in
    let field = c.loop-field.field in
    let next = fields_next (items a.table.now) a.table.now a.at a.mask field _ _ (omega (arith, c.count_at-fields.ensures.0)) c.field_at-row.ensures.0
    (c.is_marked-present.ensures ∙ ap (λ (n : ℕ). get_or (bits_of n a.mask) field false) c.count_at-fields.ensures.0) in
    rw (returned _ c.from_residual.ensures)
    ((continues-trans c.loop-field.invariant.1 (continues_same next)).complete _ _ (refused_part _ _ c.in_err-here.ensures refl))

pub write_fields-loop-field-preserved : goal.write_fields-loop-field-preserved
write_fields-loop-field-preserved t c =
    let a = c.args in
    let field = c.loop-field.field in
    let next = fields_next (items a.table.now) a.table.now a.at a.mask field _ _ (omega (arith, c.count_at-fields.ensures.0)) c.field_at-row.ensures.0
    (c.is_marked-present.ensures ∙ ap (λ (n : ℕ). get_or (bits_of n a.mask) field false) c.count_at-fields.ensures.0) in (
      search rules,
      continues-trans c.loop-field.invariant.1 (continues-trans (continues_same next) (continues_part _ _ c.write_field.ensures c.in_ok-here.was)),
    )

pub write_fields-returns : goal.write_fields-returns
write_fields-returns t c =
    let a = c.args in
    let e : c.loop-field.field ≡ u16 a.table.now (a.at + 4) = omega (arith, c.count_at-fields.ensures.0) in
    continues_end (continues-trans c.loop-field.invariant.1 (continues_same (fields_end (items a.table.now) a.table.now a.at a.mask c.loop-field.field e)))

-- ── a run ──

-- what is left begins with one row
next_row : (count done : ℕ) (p : Items) → done < count → times (count - done) p ≡ p then times (count - (done + 1)) p
next_row count done p h =
    let more : count - done ≡ suc (count - (done + 1)) = omega arith in
    times_more (count - done) (count - (done + 1)) p more

pub write_run-returns-in_err-here : goal.write_run-returns-in_err-here
write_run-returns-in_err-here t c =
    let a = c.args in
    let next = next_row a.count c.loop.counter (items a.table.now a.row) c.loop-test.true in
    rw (returned _ c.from_residual.ensures)
    ((continues-trans c.loop.invariant.1 (continues_same next)).complete _ _ (refused_part _ _ c.in_err-here.ensures refl))

pub write_run-loop-preserved : goal.write_run-loop-preserved
write_run-loop-preserved t c =
    let a = c.args in
    let next = next_row a.count c.loop.counter (items a.table.now a.row) c.loop-test.true in (
      search rules,
      continues-trans c.loop.invariant.1 (continues-trans (continues_same next) (continues_part _ _ c.write_row.ensures c.in_ok-here.was)),
    )

pub write_run-returns : goal.write_run-returns
write_run-returns t c =
    let a = c.args in
    continues_end (continues-trans c.loop.invariant.1 (continues_same (times_none (a.count - c.loop.counter) (items a.table.now a.row) (omega arith))))
