-- What proofs about every row of a table lean on: what the octets make of a row.
-- Assumes nothing.
use Prim.Native.Nat.{ℕ, ◌+◌}
use mathlib.Core.Bool.{Bool, true, false, cond}
use mathlib.Core.Path.{◌≡◌, sym, ◌∙◌}
use mathlib.Core.List.{List}
use lib.Dec.{eqb}
use lib.ListN.{length}
use Rattle.octets.specs.Numbers.{u16}
use Rattle.octets.proofs.Numbers.{length-u16s}
use Rattle.row.specs.Rows.{Row, Number, Variable, FixedRun, CountedRun, Record, Choice, Octets, Unknown, row_of, row_at}

-- a record has as many flags as fields
abbrev pub Matched : Row → Type 0
Matched (Number low span) = Unit {0}
Matched Variable = Unit {0}
Matched (FixedRun count r) = Unit {0}
Matched (CountedRun most r) = Unit {0}
Matched (Record rs flags) = length flags ≡ length rs
Matched (Choice rs) = Unit {0}
Matched (Octets least most) = Unit {0}
Matched Unknown = Unit {0}

either : (b : Bool) (x y : Row) → Matched x → Matched y → Matched (cond b x y)
either true x y h k = h
either false x y h k = k

pub row-matched : (t : List ℕ) (o : ℕ) → Matched (row_at t o)
unfolding row_at row_of
row-matched t o =
    let kind = u16 t (o + 2) in
    let n = u16 t (o + 4) in
    either (eqb kind 1) _ _ tt
    (either (eqb kind 2) _ _ tt
    (either (eqb kind 3) _ _ tt
    (either (eqb kind 4) _ _ tt
    (either (eqb kind 5) _ _ (length-u16s t 4 (o + 8) n ∙ sym (length-u16s t 4 (o + 6) n))
    (either (eqb kind 6) _ _ tt
    (either (eqb kind 7) _ _ tt
    (either (eqb kind 8) _ _ tt
    tt)))))))
