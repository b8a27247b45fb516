use Prim.Native.Nat.{ℕ, ◌+◌, ◌^◌, ◌<◌}
use mathlib.Core.Path.{◌≡◌, refl, subst, ◌∙◌}
use native.Mathlib.Omega.{arith}
use borrow.Author.Rules.{rules}
use Rattle.octets.specs.Numbers.{u16}
use Rattle.row.proofs.Fits.{record_fits}
use Rattle.guard.specs.Readable.{asks_from}
use Rattle.guard.proofs.Readable.{asks-row}
use Rattle.parts.proofs.Records.{record-start, record_end, mask_lt, marked_lt}
use Rattle.read_steps.proofs.Flow.{continues-trans, continues_same}
use Rattle.read_begin.proofs.Records.{marked_on, mark-refused}
use Rattle.answer.proofs.Exits.{exit}
use Rattle.read_begin.proofs.begin_record.Goals as goal

pub count_at-fields-requires : goal.count_at-fields-requires
count_at-fields-requires c = omega (arith, (record_fits c.requires.0.readable.row c.requires.1).inside)

pub loop-field-init : goal.loop-field-init
loop-field-init c =
    let a = c.args in
    let start = record-start (asks_from a.table.now a.at) a.table.now a.at (record_fits c.requires.0.readable.row c.requires.1).is in
    (refl, refl, omega arith, continues_same (asks-row c.requires.0 ∙ start))

pub flag_at-flag-requires : goal.flag_at-flag-requires
flag_at-flag-requires c =
    omega (arith, (record_fits c.requires.0.readable.row c.requires.1).inside)

pub mark-requires : goal.mark-requires
mark-requires c =
    (mask_lt c.loop-field.field c.loop-field.mask c.loop-field.invariant.2 (omega (arith, (record_fits c.requires.0.readable.row c.requires.1).most)), search rules)

pub returns-in_err-marked : goal.returns-in_err-marked
returns-in_err-marked c =
    let a = c.args in
    rw (exit _ c.from_residual.ensures.1)
    (mark-refused a.table.now a.at c.loop-field.field _ c.loop-field.mask (omega arith) c.loop-field.invariant.2 c.flag_at-flag.ensures.0 c.loop-field.invariant.3 _ _ _ c.in_err-marked.ensures)

pub loop-field-preserved : goal.loop-field-preserved
loop-field-preserved c =
    let a = c.args in
    let m = c.in_ok-marked.ensures in (
      search rules,
      search rules,
      marked_lt c.loop-field.field c.loop-field.mask _ c.loop-field.invariant.2 m.0,
      marked_on a.table.now a.at c.loop-field.field _ c.loop-field.mask (omega arith) c.loop-field.invariant.2 c.flag_at-flag.ensures.0 c.loop-field.invariant.3 _ _ _ _ m,
    )

pub returns : goal.returns
returns c =
    let a = c.args in
    let e : c.loop-field.field ≡ u16 a.table.now (a.at + 4) = omega arith in (
      c.requires.1,
      subst (λ (n : ℕ). c.loop-field.mask < 2 ^ n) e c.loop-field.invariant.2,
      continues-trans c.loop-field.invariant.3 (continues_same (record_end (asks_from a.table.now a.at) a.table.now a.at c.loop-field.field c.loop-field.mask e)),
    )
