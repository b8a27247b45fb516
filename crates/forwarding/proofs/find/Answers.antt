-- `forwarding::find` meets its contract: the two searches, and what is decided by them, are the step.
use Prim.Native.Nat.{ℕ}
use mathlib.Core.List.{List}
use mathlib.Core.Path.{◌≡◌}
use lib.ListN.{length}
use Rattle.seen.specs.declared.Seen.{Seen}
use Rattle.seen.specs.declared.Want.{Want}
use Rattle.seen.specs.Records.{first_with}
use Rattle.seen.specs.Search.{wanted_by}
use Rattle.forward.specs.Parts.{wants_id, wants_free, decided, step_of}
use Rattle.forward.specs.declared.Ask.{Ask}
use Rattle.forward.specs.declared.Step.{Step}
use Rattle.forwarding.proofs.find.Goals as goal

step_is : (a : Ask) (ys : List Seen) (w u : Want) (i j : ℕ) (r : Step)
    → w ≡ wants_id a.head a.time → i ≡ first_with (wanted_by w) ys
    → u ≡ wants_free a.head a.time i (length ys) → j ≡ first_with (wanted_by u) ys
    → r ≡ decided a.head a.octets a.fits i j (length ys) → r ≡ step_of a ys
unfolding step_of
step_is a ys w u i j r ew ei eu ej er = cc

pub returns : goal.returns
returns c = step_is c.args.ask c.args.seen.now _ _ _ _ _ c.by_id.ensures c.first-held.ensures c.by_free.ensures c.first-free.ensures c.decide.ensures
