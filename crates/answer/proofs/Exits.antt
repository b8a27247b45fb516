-- What a `?` hands on: the refusal that it met.
-- Assumes nothing.
use mathlib.Core.Path.{◌≡◌, ap, ◌∙◌}
use Rattle.std.specs.Result.{IsErrAnd}
use Rattle.std.proofs.Common.{Result, Err}
use Rattle.std.proofs.lemmas.Result.{err_from_is_err_and}
use Rattle.answer.specs.declared.Refusal.{Refusal}

pub exit : {T : Type 0} {refusal : Refusal} (r : Result T Refusal) → IsErrAnd r (λ y. y ≡ refusal) → r ≡ Err refusal
exit r h = let p = err_from_is_err_and r h in p.1 ∙ ap Err p.2
