-- `write_item::put_bits` meets its contract. It names what `store` answers.
use mathlib.Core.Path.{◌≡◌, refl, ap, ◌∙◌}
use mathlib.Core.Bool.{Bool, true, false, cond}
use mathlib.Core.List.{List}
use Prim.Native.Nat.{ℕ, ◌+◌, ◌*◌}
use lib.Dec.{leb}
use lib.ListN.{length}
use Rattle.std.proofs.Common.{Option, Some, None, Ok, Err, ok_or}
use Rattle.bits.specs.Access.{place_at, stored}
use Rattle.bits.specs.declared.BitPlace.{BitPlace}
use Rattle.answer.specs.declared.Reason.TheVariants.{NoRoom}
use Rattle.write_item.specs.Steps.{put_of}
use Rattle.write_item.proofs.put_bits.Goals as goal

named : (m : List ℕ) (p k : ℕ) → ok_or (stored m p k) NoRoom ≡ put_of m p k
named m p k = go (leb (p + k) (8 * length m))
  where
    go : (t : Bool) → ok_or (cond {A = Option BitPlace} t (Some (place_at (p + k))) None) NoRoom ≡ cond t (Ok (place_at (p + k))) (Err NoRoom)
    go true = refl
    go false = refl

pub returns : goal.returns
returns c =
    let a = c.args in
    (c.ok_or.ensures.value ∙ ap (λ s. ok_or s NoRoom) c.store.ensures.0 ∙ named a.output.now a.place.0 a.k, c.store.ensures.1)
