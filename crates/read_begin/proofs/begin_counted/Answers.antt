-- `read_begin::begin_counted` meets its contract. A length, read and kept, leaves that many items of the row referred to.
-- Assumes nothing.
use Prim.Native.Nat.{ℕ, ◌+◌}
use mathlib.Core.Path.{◌≡◌, sym, ap, ◌∙◌}
use mathlib.Core.List.{List}
use native.Mathlib.Omega.{arith}
use Rattle.octets.specs.Numbers.{u16}
use Rattle.item.specs.Code.{length_within, natural}
use Rattle.row.proofs.Fits.{counted_fits}
use Rattle.items.specs.Items.{ask, times}
use Rattle.encoding.proofs.RowItems.{asks-counted}
use Rattle.guard.specs.Readable.{asks_at, asks_from, Opened}
use Rattle.guard.proofs.Readable.{Reached, asks-row}
use Rattle.read_steps.proofs.Keeping.{keeping-value, count-held, item-refused, first_refused, first-kept}
use Rattle.read_begin.proofs.Beginnings.{begins-run, counted-reached}
use borrow.Author.Rules.{rules}
use Rattle.answer.proofs.Exits.{exit}
use Rattle.read_begin.proofs.begin_counted.Goals as goal

module _ {t : List ℕ} {o : ℕ} (h : Opened t o) (k : u16 t (o + 2) ≡ 4) where
  -- what the row asks for
  row-items : asks_at t o ≡ ask (length_within 0 (u16 t (o + 4))) (λ v. times (natural v) (asks_from t o (u16 t (o + 6))))
  row-items = asks-row h ∙ asks-counted (asks_from t o) t o _ _ (counted_fits h.readable.row k).0

  -- the row that it refers to
  reached : Reached t o (u16 t (o + 6))
  reached = counted-reached h k (λ e. let six : ◌≡◌ {A = ℕ} 4 6 = sym k ∙ e in absurd (omega arith))

pub count_at-most-requires : goal.count_at-most-requires
count_at-most-requires c = omega (arith, (counted_fits c.requires.0.readable.row c.requires.1).1)

pub run_at-row-requires : goal.run_at-row-requires
run_at-row-requires c = (counted_fits c.requires.0.readable.row c.requires.1).1

pub returns-in_err-length : goal.returns-in_err-length
returns-in_err-length c =
    let asked = ap (length_within 0) c.count_at-most.ensures.0 in
    rw (exit _ c.from_residual.ensures.1) (item-refused _ _ (row-items c.requires.0 c.requires.1) _ asked c.length.ensures c.in_err-length.was)

pub returns-in_err-next : goal.returns-in_err-next
returns-in_err-next c =
    let length-kept = keeping-value _ (ap (length_within 0) c.count_at-most.ensures.0) (search rules) c.length.ensures c.in_ok-length.was c.keep.ensures in
    rw (exit _ c.from_residual-in_err-next.ensures.1) (first_refused _ _ (row-items c.requires.0 c.requires.1) length-kept c.in_err-next.was)

pub run_of-requires : goal.run_of-requires
run_of-requires c = rw c.run_at-row.ensures.0 (reached c.requires.0 c.requires.1).readable.row.start

pub returns : goal.returns
returns c =
    let length-kept = keeping-value _ (ap (length_within 0) c.count_at-most.ensures.0) (search rules) c.length.ensures c.in_ok-length.was c.keep.ensures in
    rw (c.run_of.ensures, count-held c.in_ok-length.length (search rules) c.count_of.ensures, c.run_at-row.ensures.0)
    (begins-run c.args.at _ _ (reached c.requires.0 c.requires.1)
    (first-kept _ _ (row-items c.requires.0 c.requires.1) length-kept c.in_ok-next.was))
