use Prim.Native.Nat.{ℕ, ◌+◌, ◌-◌, ◌≤◌, ◌<◌}
use mathlib.Core.Path.{◌≡◌, refl, sym, ap, ◌∙◌}
use mathlib.Core.List.{List}
use native.Mathlib.Omega.{arith}
use borrow.Author.Rules.{rules}
use mir.Syntax.{w64}
use mir.Val.{to_z, of_z}
use lib.IntN.{ℤ}
use lib.Signed.{mag}
use Rattle.item.specs.Code.{Code, number}
use Rattle.item.proofs.Naturals.{held}
use Rattle.items.specs.Items.{ask, one, times}
use Rattle.items.proofs.Runs.{times_none, run_first}
use Rattle.read_steps.specs.Reads.{State, Continues}
use Rattle.read_steps.proofs.Flow.{continues-trans, continues_same, continues_end}
use Rattle.read_steps.proofs.Keeping.{keeping-value, item-refused, first_refused, first-kept}
use Rattle.answer.proofs.Exits.{exit}
use Rattle.read_steps.proofs.read_numbers.Goals as goal

-- the numbers' code, whose low the code holds as a word
abbrev code : ℤ → ℕ → Code
code low span = number (to_z w64 (of_z w64 low)) span

code-held : {message : List ℕ} {room : ℕ} {a : State} (count span : ℕ) (low : ℤ) → mag low ≤ 2147483648
    → Continues message room (times count (one (number low span))) a (times count (one (code low span))) a
code-held count span low h = continues_same (ap (λ (z : ℤ). times count (one (number z span))) (sym (held low (omega (arith, h)))))

-- what is left begins with one number
run_more : (c : Code) (count done : ℕ) → done < count → times (count - done) (one c) ≡ ask c (λ v. times (count - (done + 1)) (one c))
run_more c count done h = run_first c (count - done) (count - (done + 1)) (omega arith)

pub loop-init : goal.loop-init
loop-init c =
    let a = c.args in
    let all : a.count ≡ a.count - 0 = omega arith in
    (refl, refl, continues_same (ap (λ (n : ℕ). times n (one (code a.low a.span))) all))

pub returns-in_err-value : goal.returns-in_err-value
returns-in_err-value c =
    let a = c.args in
    let first = item-refused (code a.low a.span) _ (run_more _ a.count c.loop.counter c.loop-test.true) _ refl c.number.ensures c.in_err-value.was in
    rw (exit _ c.from_residual.ensures.1) ((continues-trans (code-held a.count a.span a.low c.requires.1) c.loop.invariant.2).complete _ _ _ first)

pub returns-in_err-here : goal.returns-in_err-here
returns-in_err-here c =
    let a = c.args in
    let number-kept = keeping-value _ refl (search rules) c.number.ensures c.in_ok-value.was c.keep.ensures in
    let first = first_refused (code a.low a.span) _ (run_more _ a.count c.loop.counter c.loop-test.true) number-kept c.in_err-here.was in
    rw (exit _ c.from_residual-in_err-here.ensures.1) ((continues-trans (code-held a.count a.span a.low c.requires.1) c.loop.invariant.2).complete _ _ _ first)

pub loop-preserved : goal.loop-preserved
loop-preserved c =
    let a = c.args in
    let number-kept = keeping-value _ refl (search rules) c.number.ensures c.in_ok-value.was c.keep.ensures in
    let first = first-kept (code a.low a.span) _ (run_more _ a.count c.loop.counter c.loop-test.true) number-kept c.in_ok-here.was in
    (search rules, search rules, continues-trans c.loop.invariant.2 first)

pub returns : goal.returns
returns c =
    let a = c.args in
    let none = times_none (a.count - c.loop.counter) (one (code a.low a.span)) (omega arith) in
    continues_end (continues-trans (code-held a.count a.span a.low c.requires.1) (continues-trans c.loop.invariant.2 (continues_same none)))
