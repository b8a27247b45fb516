use Prim.Native.Nat.{ℕ, suc, ◌+◌, ◌-◌, ◌<◌}
use mathlib.Core.Path.{◌≡◌, refl}
use native.Mathlib.Omega.{arith}
use borrow.Author.Rules.{rules}
use lib.IntN.{ℤ}
use mir.Syntax.{w64}
use mir.Val.{to_z, of_z}
use Rattle.item.specs.Code.{Code, number}
use Rattle.items.specs.Items.{one}
use Rattle.item.proofs.Naturals.{held}
use Rattle.item.proofs.Returned.{returned}
use Rattle.items.proofs.Runs.{times_none, run_first}
use Rattle.write_steps.specs.Writes.{list_in, state_at}
use Rattle.write_steps.proofs.Flow.{continues-trans, continues_same, continues_end}
use Rattle.write_steps.proofs.Putting.{Putting, putting, first_missing, first_refused, first_put}
use Rattle.write_steps.proofs.write_numbers.Goals as goal

-- the numbers' code, as the loop holds its low
abbrev code : ℤ → ℕ → Code
code low span = number (to_z w64 (of_z w64 low)) span

-- what is left begins with one number
run_more : (count done : ℕ) → done < count → count - done ≡ suc (count - (done + 1))
run_more count done h = omega arith

pub returns-in_err-value : goal.returns-in_err-value
returns-in_err-value c =
    let a = c.args in
    let loop = c.loop in
    let k = code a.low a.span in
    rw (returned _ c.from_residual.ensures, ← held a.low (omega arith))
    (loop.invariant.1.complete _ _
    (first_missing k _ (run_first k (a.count - loop.counter) (a.count - (loop.counter + 1)) (run_more a.count loop.counter c.loop-test.true))
    c.next_value.result c.next_value.ensures c.in_err-value.was))

pub returns-in_err-here : goal.returns-in_err-here
returns-in_err-here c =
    let a = c.args in
    let loop = c.loop in
    let k = code a.low a.span in
    let put : Putting k (list_in a.values.now a.packed.now) (state_at loop.here loop.output) c.number-put.new.output c.in_ok-value.value c.moved.result =
    putting _ c.next_value.result c.number-put.result _ _ refl c.next_value.ensures c.in_ok-value.was
    (held c.in_ok-value.value (search rules)) c.number-put.ensures c.moved.ensures in
    rw (returned _ c.from_residual-in_err-here.ensures, ← held a.low (omega arith))
    (loop.invariant.1.complete _ _
    (first_refused k _ (run_first k (a.count - loop.counter) (a.count - (loop.counter + 1)) (run_more a.count loop.counter c.loop-test.true))
    put c.in_err-here.was))

pub loop-preserved : goal.loop-preserved
loop-preserved c =
    let a = c.args in
    let loop = c.loop in
    let k = code a.low a.span in
    let put : Putting k (list_in a.values.now a.packed.now) (state_at loop.here loop.output) c.number-put.new.output c.in_ok-value.value c.moved.result =
    putting _ c.next_value.result c.number-put.result _ _ refl c.next_value.ensures c.in_ok-value.was
    (held c.in_ok-value.value (search rules)) c.number-put.ensures c.moved.ensures in (
      search rules,
      continues-trans loop.invariant.1
          (first_put k _ (run_first k (a.count - loop.counter) (a.count - (loop.counter + 1)) (run_more a.count loop.counter c.loop-test.true))
          put c.in_ok-here.was),
    )

pub returns : goal.returns
returns c =
    let a = c.args in
    rw (← held a.low (omega arith))
    (continues_end (continues-trans c.loop.invariant.1 (continues_same (times_none (a.count - c.loop.counter) (one (code a.low a.span)) (omega arith)))))
