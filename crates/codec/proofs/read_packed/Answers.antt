-- `codec::read_packed` meets its contract. A broken table; or the outcome kept, and zeros after it.
-- Assumes nothing.
use Prim.Native.Nat.{ℕ, ◌*◌, ◌/◌, ◌≤◌}
use mathlib.Core.Path.{◌≡◌, sym, ap, ◌∙◌}
use native.Mathlib.Omega.{arith}
use lib.ListN.{length}
use mathlib.Core.List.{List}
use lib.IntN.{ℤ}
use Rattle.answer.specs.Numbers.{Answer}
use Rattle.items.specs.Reading.{read_answer, read_values}
use Rattle.items.specs.Slices.{filled}
use Rattle.values.specs.Values.{list_octets}
use Rattle.encoding.specs.Rows.{asks}
use Rattle.items.proofs.Messages.{message_fits}
use Rattle.read_steps.specs.Ends.{kept_count}
use Rattle.reading.specs.Outcome.{message_outcome}
use Rattle.reading.proofs.Passed.{accepted-obeys, passed-outcome, broken-outcome}
use Rattle.read_steps.proofs.Settled.{count-is, settled-packed}
use Rattle.codec.proofs.read_packed.Goals as goal

-- the values kept are those of the outcome
kept-is : (t s : List ℕ) (room : ℕ) (answer : Answer) (kept : ℕ) → kept ≡ kept_count answer → answer ≡ read_answer (message_outcome t s room) → kept ≡ length (read_values (message_outcome t s room))
kept-is t s room answer kept k e = k ∙ ap kept_count e ∙ count-is (message_outcome t s room)

pub returns-in-Err : goal.returns-in-Err
unfolding list_octets
returns-in-Err c =
    let a = c.args in
    let b = broken-outcome a.table.now a.message.now (length a.packed.now / 8) _ _ c.check.ensures c.in-Err.is in
    (sym c.in-Err.is ∙ b.0, c.clear.ensures ∙ ap (λ (vs : List ℤ). filled 0 (length a.packed.now) (list_octets vs)) (sym b.1))

pub read_passed-answer-requires : goal.read_passed-answer-requires
read_passed-answer-requires c = (accepted-obeys c.args.table.now _ _ c.check.ensures c.in_default.is, c.root-root.ensures)

pub overflow_mul-kept : goal.overflow_mul-kept
overflow_mul-kept c =
    let a = c.args in
    let n = length a.packed.now / 8 in
    omega (
      arith,
      kept-is a.table.now a.message.now n _ _ c.kept_count-kept.ensures c.read_passed-answer.ensures.0,
      message_fits (asks a.table.now) a.message.now n,
    )

pub clear-requires-2 : goal.clear-requires-2
clear-requires-2 c =
    let a = c.args in
    let n = length a.packed.now / 8 in
    omega (
      arith,
      kept-is a.table.now a.message.now n _ _ c.kept_count-kept.ensures c.read_passed-answer.ensures.0,
      message_fits (asks a.table.now) a.message.now n,
      c.read_passed-answer.auto.packed,
    )

pub returns : goal.returns
returns c =
    let a = c.args in
    let n = length a.packed.now / 8 in
    let o = message_outcome a.table.now a.message.now n in
    let k = kept-is a.table.now a.message.now n _ _ c.kept_count-kept.ensures c.read_passed-answer.ensures.0 in
    let k8 : c.kept_count-kept.result * 8 ≡ 8 * length (read_values o) = omega arith in
    let fits : 8 * length (read_values o) ≤ length a.packed.now = omega (arith, message_fits (asks a.table.now) a.message.now n) in
    rw (passed-outcome a.table.now a.message.now n (accepted-obeys a.table.now _ _ c.check.ensures c.in_default.is))
    (c.read_passed-answer.ensures.0, c.clear-2.ensures ∙ rw k8 (settled-packed o a.packed.now _ fits c.read_passed-answer.auto.packed c.read_passed-answer.ensures.2))
