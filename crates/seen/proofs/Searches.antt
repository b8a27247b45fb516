-- What the search for an ID finds, in the words of Records.antt. That for a free record is `first_free` as it stands.
use Prim.Native.Nat.{ℕ, zero, suc}
use mathlib.Core.Bool.{Bool, true, false, not, cond, ◌&&◌, ◌||◌}
use mathlib.Core.List.{List, [], ◌∷◌}
use mathlib.Core.Path.{◌≡◌, refl, ◌∙◌}
use lib.Dec.{leb, eqb, leb-suc-zero, leb-suc-suc}
use lib.ListN.{length}
use Rattle.seen.specs.declared.Seen.{Seen}
use Rattle.seen.specs.Records.{live_at, holds, first_with}
use Rattle.seen.specs.Search.{wanted_by}
use Rattle.seen.specs.declared.Sought.TheVariants.{Id}

-- the search for an ID runs to the end exactly if no live record has it
pub not_held : (id t : ℕ) (rs : List Seen) → leb (length rs) (first_with (wanted_by (record { time = t; sought = Id id })) rs) ≡ not (holds id t rs)
not_held id t [] = refl
not_held id t (r ∷ rs) = go (eqb r.id id && live_at t r) (length rs) (first_with (wanted_by (record { time = t; sought = Id id })) rs) (holds id t rs) (not_held id t rs)
  where
    go : (b : Bool) (n f : ℕ) (h : Bool) → leb n f ≡ not h → leb (suc n) (cond b zero (suc f)) ≡ not (b || h)
    go true n f h e = leb-suc-zero n
    go false n f h e = leb-suc-suc n f ∙ e
