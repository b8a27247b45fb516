-- `read_begin::begin` meets its contract. By the kind of the row.
-- Assumes nothing.
use mathlib.Core.Path.{sym, ◌∙◌}
use native.Mathlib.Omega.{arith}
use Rattle.row.proofs.Fits.{fixed_fits, octets_fits, last_kind}
use Rattle.encoding.proofs.RowItems.{asks-fixed}
use Rattle.guard.specs.Readable.{asks_from}
use Rattle.guard.proofs.Readable.{asks-row, variable-asks, octets-asks}
use Rattle.read_steps.proofs.Flow.{continues_same, continues-done}
use Rattle.read_begin.proofs.Beginnings.{begins-number, begins-run, fixed-reached}
use Rattle.answer.proofs.Exits.{exit}
use Rattle.read_begin.proofs.begin.Goals as goal

pub kind_at-kind-requires : goal.kind_at-kind-requires
kind_at-kind-requires c =
    c.requires.0.readable.row.start

pub count_at-count-requires : goal.count_at-count-requires
count_at-count-requires c =
    let k = sym c.kind_at-kind.ensures.0 ∙ c.in-3.is in
    omega (arith, (fixed_fits c.requires.0.readable.row k).1)

pub run_at-row-requires : goal.run_at-row-requires
run_at-row-requires c =
    let k = sym c.kind_at-kind.ensures.0 ∙ c.in-3.is in
    (fixed_fits c.requires.0.readable.row k).1

pub run_of-requires : goal.run_of-requires
run_of-requires c =
    let k = sym c.kind_at-kind.ensures.0 ∙ c.in-3.is in
    rw c.run_at-row.ensures.0 (fixed-reached c.requires.0 k c.requires.1).readable.row.start

pub octets-requires : goal.octets-requires
octets-requires c =
    let is = last_kind c.requires.0.readable.row (λ e. omega arith) (λ e. omega arith) (λ e. omega arith) (λ e. omega arith) (λ e. omega arith) c.requires.1 in
    ((octets_fits c.requires.0.readable.row is).1, c.requires.2)

pub returns-in-1 : goal.returns-in-1
returns-in-1 c =
    begins-number c.requires.0.readable (sym c.kind_at-kind.ensures.0 ∙ c.in-1.is)

pub returns-in_err-next-in-2 : goal.returns-in_err-next-in-2
returns-in_err-next-in-2 c =
    let k = sym c.kind_at-kind.ensures.0 ∙ c.in-2.is in
    rw (exit _ c.from_residual.ensures.1, variable-asks c.requires.0.readable k) c.in_err-next-in-2.ensures

pub returns-in_ok-next-in-2 : goal.returns-in_ok-next-in-2
returns-in_ok-next-in-2 c =
    let k = sym c.kind_at-kind.ensures.0 ∙ c.in-2.is in
    rw (variable-asks c.requires.0.readable k) (continues-done c.in_ok-next-in-2.ensures)

pub returns-in-3 : goal.returns-in-3
returns-in-3 c =
    let k = sym c.kind_at-kind.ensures.0 ∙ c.in-3.is in
    rw (c.run_of.ensures, c.count_at-count.ensures.0, c.run_at-row.ensures.0)
    (begins-run c.args.at _ _ (fixed-reached c.requires.0 k c.requires.1) (continues_same (asks-row c.requires.0 ∙ asks-fixed (asks_from c.args.table.now c.args.at) c.args.table.now c.args.at _ _ (fixed_fits c.requires.0.readable.row k).0)))

pub returns-in_err-next-in_default : goal.returns-in_err-next-in_default
returns-in_err-next-in_default c =
    let is = last_kind c.requires.0.readable.row (λ e. omega arith) (λ e. omega arith) (λ e. omega arith) (λ e. omega arith) (λ e. omega arith) c.requires.1 in
    rw (exit _ c.from_residual-in_err-next-in_default.ensures.1, octets-asks c.requires.0.readable is) c.in_err-next-in_default.ensures

pub returns-in_ok-next-in_default : goal.returns-in_ok-next-in_default
returns-in_ok-next-in_default c =
    let is = last_kind c.requires.0.readable.row (λ e. omega arith) (λ e. omega arith) (λ e. omega arith) (λ e. omega arith) (λ e. omega arith) c.requires.1 in
    rw (octets-asks c.requires.0.readable is) (continues-done c.in_ok-next-in_default.ensures)
