use Prim.Native.Nat.{ℕ, suc, ◌+◌, ◌-◌, ◌*◌, ◌<◌}
use mathlib.Core.Bool.{Bool, false}
use mathlib.Core.Path.{◌≡◌, refl, sym, ap, ◌∙◌}
use mathlib.Core.List.{List}
use native.Mathlib.Omega.{arith}
use borrow.Author.Rules.{rules}
use lib.ListN.{get_or}
use Rattle.octets.specs.Numbers.{u16}
use Rattle.octets.proofs.Numbers.{length-u16s, get_d_u16s}
use Rattle.bits.specs.Bits.{bits_of}
use Rattle.row.proofs.Bools.{inside_within}
use Rattle.row.proofs.Fits.{number_fits, record_fits, octets_fits}
use Rattle.rules.specs.Rules.{references}
use Rattle.items.specs.Items.{Items, ◌then◌, times}
use Rattle.items.proofs.Runs.{times_none, times_more}
use Rattle.guard.specs.Readable.{asks_at, asks_from, Opened}
use Rattle.guard.proofs.Readable.{Reached, asks_never, number-asks, variable-asks, octets-asks, reached-opened}
use Rattle.parts.specs.Parts.{field_if}
use Rattle.parts.proofs.Records.{fields_from, fields-start, fields_end, fields_next}
use Rattle.read_steps.proofs.Flow.{continues-trans, continues_same, continues_end, continues_part, refused_part, reads_nothing}
use Rattle.read_begin.proofs.Beginnings.{never_reads}
use Rattle.answer.proofs.Exits.{exit}
use Rattle.reader.proofs.+read_chosen_read_field_read_fields_read_row_read_run.Goals as goal

-- ── one field ──

pub read_field-returns-then-not-present : goal.read_field-returns-then-not-present
read_field-returns-then-not-present t c = rw c.if-not-present.true reads_nothing

pub read_field-number-requires : goal.read_field-number-requires
read_field-number-requires t c = ((number_fits c.requires.0.row (sym c.kind_at-kind.ensures.0 ∙ c.in-1.is)).1, c.requires.2)

pub read_field-octets-requires : goal.read_field-octets-requires
read_field-octets-requires t c =
    let octets = inside_within 7 8 c.kind_at-kind.result (omega arith) (omega arith) in
    ((octets_fits c.requires.0.row (rw c.kind_at-kind.ensures.0 at octets)).1, c.requires.2)

pub read_field-returns-in-1 : goal.read_field-returns-in-1
read_field-returns-in-1 t c =
    rw (c.if-not-present.false, number-asks c.requires.0 (sym c.kind_at-kind.ensures.0 ∙ c.in-1.is)) c.number.ensures

pub read_field-returns-in-2 : goal.read_field-returns-in-2
read_field-returns-in-2 t c =
    rw (c.if-not-present.false, variable-asks c.requires.0 (sym c.kind_at-kind.ensures.0 ∙ c.in-2.is)) c.variable.ensures

pub read_field-returns-in-7 : goal.read_field-returns-in-7
read_field-returns-in-7 t c =
    let octets = inside_within 7 8 c.kind_at-kind.result (omega arith) (omega arith) in
    rw (c.if-not-present.false, octets-asks c.requires.0 (rw c.kind_at-kind.ensures.0 at octets)) c.octets.ensures

-- ── the fields of a record ──

-- the field of a record that a loop has come to
module _ {t : List ℕ} {o : ℕ} (h : Opened t o) (kind : u16 t (o + 2) ≡ 5) (i r : ℕ) (inside : i < u16 t (o + 4)) (is : r ≡ u16 t (o + 6 + 4 * i)) where
  -- its row
  reached : Reached t o r
  unfolding references
  reached =
      let n = u16 t (o + 4) in
      reached-opened h (λ e. let six : ◌≡◌ {A = ℕ} 5 6 = sym kind ∙ e in absurd (omega arith))
      (rw (record_fits h.readable.row kind).is (i, rw (length-u16s t 4 (o + 6) n) inside, is ∙ sym (get_d_u16s t 4 (o + 6) n i 0 inside)))

  -- what is left begins with that field
  next_field : (mask n : ℕ) (present : Bool) → n ≡ u16 t (o + 4) → present ≡ get_or (bits_of n mask) i false
      → fields_from (asks_from t o) t o mask i ≡ field_if present (asks_at t r) then fields_from (asks_from t o) t o mask (i + 1)
  next_field mask n present all e =
      fields_next (asks_from t o) t o mask i _ _ inside is (e ∙ ap (λ (n : ℕ). get_or (bits_of n mask) i false) all)
      ∙ ap (λ (p : Items). field_if present p then fields_from (asks_from t o) t o mask (i + 1)) reached.same

pub read_fields-count_at-fields-requires : goal.read_fields-count_at-fields-requires
read_fields-count_at-fields-requires t c = omega (arith, (record_fits c.requires.0.readable.row c.requires.1).inside)

pub read_fields-loop-field-init : goal.read_fields-loop-field-init
read_fields-loop-field-init t c =
    let a = c.args in
    (search rules, search rules, continues_same (fields-start (asks_from a.table.now a.at) a.table.now a.at a.mask))

pub read_fields-field_at-row-requires : goal.read_fields-field_at-row-requires
read_fields-field_at-row-requires t c = omega (arith, (record_fits c.requires.0.readable.row c.requires.1).inside)

pub read_fields-is_marked-present-requires : goal.read_fields-is_marked-present-requires
read_fields-is_marked-present-requires t c =
    (omega arith, omega (arith, (record_fits c.requires.0.readable.row c.requires.1).most), rw c.count_at-fields.ensures.0 c.requires.2)

pub read_fields-read_field-requires : goal.read_fields-read_field-requires
read_fields-read_field-requires t c =
    let on = reached c.requires.0 c.requires.1 c.loop-field.field _ (omega arith) c.field_at-row.ensures.0 in
    (omega arith, (on.readable, on.below, c.requires.3))

pub read_fields-returns-in_err-here : goal.read_fields-returns-in_err-here
read_fields-returns-in_err-here t c =
    let first = next_field c.requires.0 c.requires.1 c.loop-field.field _ (omega arith) c.field_at-row.ensures.0 c.args.mask _ _ c.count_at-fields.ensures.0 c.is_marked-present.ensures in
    rw (exit _ c.from_residual.ensures.1)
    ((continues-trans c.loop-field.invariant.2 (continues_same first)).complete _ _ _ (refused_part _ _ c.in_err-here.ensures refl))

pub read_fields-loop-field-preserved : goal.read_fields-loop-field-preserved
read_fields-loop-field-preserved t c =
    let first = next_field c.requires.0 c.requires.1 c.loop-field.field _ (omega arith) c.field_at-row.ensures.0 c.args.mask _ _ c.count_at-fields.ensures.0 c.is_marked-present.ensures in (
      search rules,
      search rules,
      continues-trans c.loop-field.invariant.2 (continues-trans (continues_same first) (continues_part _ _ c.in_ok-here.ensures refl)),
    )

pub read_fields-returns : goal.read_fields-returns
read_fields-returns t c =
    let a = c.args in
    let last = fields_end (asks_from a.table.now a.at) a.table.now a.at a.mask c.loop-field.field (omega arith) in
    continues_end (continues-trans c.loop-field.invariant.2 (continues_same last))

-- ── a row ──

pub read_row-returns-in_err-row : goal.read_row-returns-in_err-row
read_row-returns-in_err-row t c = rw (exit _ c.from_residual.ensures.1) c.in_err-row.ensures

pub read_row-returns : goal.read_row-returns
read_row-returns t c = c.in_ok-row.ensures.4.complete _ _ _ c.read_chosen.ensures

-- ── a row that is no choice ──

pub read_chosen-returns-then-not-opens : goal.read_chosen-returns-then-not-opens
read_chosen-returns-then-not-opens t c =
    let a = c.args in
    let apart = sym c.opens.ensures ∙ c.if-not-opens.true in
    rw (asks_never a.table.now a.at (c.requires.2.state c.if-not-tested.true) apart, c.unreadable.ensures) (never_reads _)

pub read_chosen-returns-in_err-left : goal.read_chosen-returns-in_err-left
read_chosen-returns-in_err-left t c = rw (exit _ c.from_residual.ensures.1) c.in_err-left.ensures

pub read_chosen-returns-in-Nothing : goal.read_chosen-returns-in-Nothing
read_chosen-returns-in-Nothing t c = let left = rw c.in-Nothing.is at c.in_ok-left.ensures in continues_end left

pub read_chosen-returns-in-Run : goal.read_chosen-returns-in-Run
read_chosen-returns-in-Run t c = let left = rw c.in-Run.is at c.in_ok-left.ensures in left.2.complete _ _ _ c.read_run.ensures

pub read_chosen-returns-in-Numbers : goal.read_chosen-returns-in-Numbers
read_chosen-returns-in-Numbers t c = let left = rw c.in-Numbers.is at c.in_ok-left.ensures in left.1.complete _ _ _ c.numbers.ensures

pub read_chosen-returns-in-Fields : goal.read_chosen-returns-in-Fields
read_chosen-returns-in-Fields t c = let left = rw c.in-Fields.is at c.in_ok-left.ensures in left.2.complete _ _ _ c.read_fields.ensures

-- ── a run ──

-- what is left begins with one row
next_row : (count done : ℕ) (p : Items) → done < count → times (count - done) p ≡ p then times (count - (done + 1)) p
next_row count done p h = let more : count - done ≡ suc (count - (done + 1)) = omega arith in times_more (count - done) (count - (done + 1)) p more

pub read_run-loop-init : goal.read_run-loop-init
read_run-loop-init t c = let all : c.args.count ≡ c.args.count - 0 = omega arith in (search rules, search rules, continues_same (ap (λ (n : ℕ). times n (asks_at c.args.table.now c.args.row)) all))

pub read_run-returns-in_err-here : goal.read_run-returns-in_err-here
read_run-returns-in_err-here t c =
    let a = c.args in
    let first = next_row a.count c.loop.counter (asks_at a.table.now a.row) c.loop-test.true in
    rw (exit _ c.from_residual.ensures.1)
    ((continues-trans c.loop.invariant.2 (continues_same first)).complete _ _ _ (refused_part _ _ c.in_err-here.ensures refl))

pub read_run-loop-preserved : goal.read_run-loop-preserved
read_run-loop-preserved t c =
    let a = c.args in
    let first = next_row a.count c.loop.counter (asks_at a.table.now a.row) c.loop-test.true in (
      search rules,
      search rules,
      continues-trans c.loop.invariant.2 (continues-trans (continues_same first) (continues_part _ _ c.in_ok-here.ensures refl)),
    )

pub read_run-returns : goal.read_run-returns
read_run-returns t c =
    let a = c.args in
    let none = times_none (a.count - c.loop.counter) (asks_at a.table.now a.row) (omega arith) in
    continues_end (continues-trans c.loop.invariant.2 (continues_same none))
