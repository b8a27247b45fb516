-- What the check finds, over any octets that are lent as a table: the rules of document 01 (Obeys, in rules' specs/Rules.antt) and the
-- fault of document 02's ticket 1 (Fault, in Faults.antt), neither of which mentions the check. `checked` of the verdict
-- is what `table::check` answers. The proof is proofs/Checks.antt.
use Rattle.std.specs.Prelude.{ℕ, ◌≡◌, ◌↔◌, List}
use Rattle.answer.specs.Numbers.{refusal_at, refused}
use Rattle.rules.specs.Rules.{Obeys}
use Rattle.table.specs.Faults.{Fault}
use Rattle.table.specs.Verdict.{passed, broken, verdict, checked}

pub record Checks (t : List ℕ) : Type 0 where
  -- it passes a table exactly when the table obeys the rules
  pub passes : (verdict t ≡ passed) ↔ Obeys t
  -- and refuses it with a number at a place exactly when these are its fault
  pub refuses : (number place : ℕ) → (verdict t ≡ broken (refusal_at number place)) ↔ Fault t number place
  -- the same of the answer (that it is accepted exactly when the table obeys the rules is Demand3's `checks`)
  pub answers : (number place : ℕ) → (checked (verdict t) ≡ refused number place) ↔ Fault t number place
  -- no table has two faults, and one that obeys the rules has none
  pub one : (n p m q : ℕ) → Fault t n p → Fault t m q → (n ≡ m) × (p ≡ q)
  pub none : (n p : ℕ) → Obeys t → Fault t n p → ⊥
