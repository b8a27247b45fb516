-- What `?` returns, and what `ok_or` and `map_err` were given, by what they made of it.
use mathlib.Core.Path.{◌≡◌, refl, ap, ◌∙◌}
use Rattle.std.specs.Prelude.{Option, Some, None, Result, Ok, Err}
use Rattle.std.specs.Option.{ok_or}
use Rattle.std.specs.Result.{IsErr, IsErrAnd, MatchResult}
use Rattle.std.proofs.lemmas.Result.{err_from_is_err_and}

-- the error that was met
pub returned : {T E : Type 0} {e : E} (r : Result T E) → IsErr r × IsErrAnd r (λ y. y ≡ e) → r ≡ Err e
returned r is = let p = err_from_is_err_and r is.1 in p.1 ∙ ap Err p.2

pub ok_or-Ok : {T E : Type 0} (o : Option T) (x : E) {y : T} → ok_or o x ≡ Ok y → o ≡ Some y
ok_or-Ok None x e = absurd (cc)
ok_or-Ok (Some z) x {y} e = let same : z ≡ y = cc in ap Some same

pub ok_or-Err : {T E : Type 0} (o : Option T) (x : E) {e : E} → ok_or o x ≡ Err e → (o ≡ None) × (x ≡ e)
ok_or-Err None x e = (refl, cc)
ok_or-Err (Some z) x e = absurd (cc)

-- what `map_err` was given, by what it made of that
module _ {T E D : Type 0} (P : E → D → Type 0) where
  pub mapped-Ok : (r : Result T E) (s : Result T D) {y : T} → MatchResult r (λ x. s ≡ Ok x) (λ e. IsErrAnd s (P e)) → s ≡ Ok y → r ≡ Ok y
  mapped-Ok (Ok x) s {y} m is = let same : x ≡ y = cc in ap Ok same
  mapped-Ok (Err e) s m is = absurd (rw is at m)

  pub mapped-Err : (r : Result T E) (s : Result T D) {d : D} → MatchResult r (λ x. s ≡ Ok x) (λ e. IsErrAnd s (P e)) → s ≡ Err d
      → (e : E) × (r ≡ Err e) × P e d
  mapped-Err (Ok x) s m is = absurd (cc)
  mapped-Err (Err e) s m is = (e, refl, rw is at m)
