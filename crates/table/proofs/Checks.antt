-- What the check finds (specs/Checks.antt).
-- Assumes nothing.
use Prim.Native.Nat.{ℕ}
use mathlib.Core.Path.{◌≡◌, ap}
use mathlib.Core.Logic.{◌↔◌}
use mathlib.Core.List.{List}
use native.Mathlib.Omega.{arith}
use Rattle.answer.specs.Numbers.{refusal_at, refused}
use Rattle.table.specs.Faults.{Fault}
use Rattle.table.specs.Verdict.{Verdict, passed, broken, verdict, checked}
use Rattle.table.specs.Checks.{Checks}
use Rattle.table.proofs.Decides.{passes-exactly, refuses-exactly, one_fault, no_fault}

-- the answer tells the verdict
checked-broken : (v : Verdict) (n p : ℕ) → checked v ≡ refused n p → v ≡ broken (refusal_at n p)
checked-broken passed n p e = absurd (let z : ◌≡◌ {A = ℕ} 0 1 = cc in omega arith)
checked-broken (broken r) n p e = cc

answers-exactly : (t : List ℕ) (n p : ℕ) → (checked (verdict t) ≡ refused n p) ↔ Fault t n p
answers-exactly t n p = (λ e. (refuses-exactly t n p).0 (checked-broken (verdict t) n p e), λ f. ap (λ v. checked v) ((refuses-exactly t n p).1 f))

pub checks : (t : List ℕ) → Checks t
checks t = record {
  passes = passes-exactly t;
  refuses = refuses-exactly t;
  answers = answers-exactly t;
  one = one_fault t;
  none = no_fault t;
}
