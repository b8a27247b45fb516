-- The number and values of a case are those that it was made of; and what an answer under a test tells of the test.
-- Assumes nothing.
use mathlib.Core.Bool.{Bool, true, false}
use mathlib.Core.Path.{◌≡◌, refl}
use Rattle.answer.specs.Numbers.{Inverse, answer_if, Answer}
use Rattle.answer.specs.declared.Counts.{Counts}
use Rattle.answer.specs.declared.Refusal.{Refusal}
use Rattle.std.proofs.Common.{Ok}

pub inverse : Inverse
inverse = record { accepts = λ v b o. refl; refuses = λ n p. refl }

pub answer_if-accepted : (t : Bool) (refusal : Refusal) (x : Answer) (counts : Counts) → answer_if t refusal x ≡ Ok counts → (t ≡ true) × (x ≡ Ok counts)
answer_if-accepted true refusal x counts e = (refl, e)
answer_if-accepted false refusal x counts e = (cc, cc)
