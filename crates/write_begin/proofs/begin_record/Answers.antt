use Prim.Native.Nat.{ℕ, ◌+◌, ◌^◌, ◌<◌}
use mathlib.Core.Path.{◌≡◌, refl, subst}
use native.Mathlib.Omega.{arith}
use borrow.Author.Rules.{rules}
use Rattle.octets.specs.Numbers.{u16}
use Rattle.item.proofs.Returned.{returned}
use Rattle.table.proofs.Obeyed.{record-row}
use Rattle.encoding.specs.Rows.{items}
use Rattle.parts.proofs.Records.{record_known, record_end, mask_lt, marked_lt}
use Rattle.write_steps.proofs.Flow.{continues-trans, continues_same}
use Rattle.write_begin.proofs.Records.{marked_on, mark-refused}
use Rattle.write_begin.proofs.begin_record.Goals as goal

pub count_at-fields-requires : goal.count_at-fields-requires
count_at-fields-requires c = omega (arith, (record-row c.requires.0 c.requires.1 c.requires.2).inside)

pub loop-field-init : goal.loop-field-init
loop-field-init c =
    (refl, omega arith, continues_same (record_known c.requires.0 c.requires.1 c.requires.2))

pub flag_at-flag-requires : goal.flag_at-flag-requires
flag_at-flag-requires c =
    omega (arith, c.count_at-fields.ensures.0, (record-row c.requires.0 c.requires.1 c.requires.2).inside)

pub mark-requires : goal.mark-requires
mark-requires c =
    let loop = c.loop-field in
    let few : loop.field < 32 = omega (arith, c.count_at-fields.ensures.0, (record-row c.requires.0 c.requires.1 c.requires.2).most) in
    (mask_lt loop.field loop.mask loop.invariant.1 few, search rules)

pub returns-in_err-marked : goal.returns-in_err-marked
returns-in_err-marked c =
    let a = c.args in
    let loop = c.loop-field in
    rw (returned _ c.from_residual.ensures)
    (mark-refused a.table.now a.at loop.field _ loop.mask (omega (arith, c.count_at-fields.ensures.0)) loop.invariant.1 c.flag_at-flag.ensures.0 loop.invariant.2 _ _ c.in_err-marked.ensures)

pub loop-field-preserved : goal.loop-field-preserved
loop-field-preserved c =
    let a = c.args in
    let loop = c.loop-field in
    let m = c.in_ok-marked.ensures in (
      search rules,
      marked_lt loop.field loop.mask _ loop.invariant.1 m.0,
      marked_on a.table.now a.at loop.field _ loop.mask (omega (arith, c.count_at-fields.ensures.0)) loop.invariant.1 c.flag_at-flag.ensures.0 loop.invariant.2 _ _ _ m,
    )

pub returns : goal.returns
returns c =
    let loop = c.loop-field in
    let t = c.args.table.now in
    let e : loop.field ≡ u16 t (c.args.at + 4) = omega (arith, c.count_at-fields.ensures.0) in (
      c.requires.2,
      subst (λ (n : ℕ). loop.mask < 2 ^ n) e loop.invariant.1,
      continues-trans loop.invariant.2 (continues_same (record_end (items t) t c.args.at loop.field loop.mask e)),
    )
