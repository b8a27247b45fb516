-- What each kind of row asks for (document 01, "Bits and values"), and what a table does: that of its last row.
-- X.691: a record is a SEQUENCE, 19 (the presence bits of its optional fields, then the fields); a choice, 23; a fixed run a
-- SEQUENCE OF of one size and a counted run one with no size constraint, 20; octets an OCTET STRING with none, 17, and where the least
-- length is 1 an open type, 11.2, whose octets are not looked into.
use Rattle.std.specs.Prelude.{ℕ, zero, suc, Bool, true, false, List, [], ◌∷◌, map, eqb, pos, get_or}
use Rattle.octets.specs.Numbers.{there}
use Rattle.item.specs.Code.{number, variable, length_within, index, natural}
use Rattle.row.specs.Offsets.{earlier, by_offset}
use Rattle.row.specs.Rows.{Row, Number, Variable, FixedRun, CountedRun, Record, Choice, Octets, Unknown, row_at}
use Rattle.table.specs.Root.{root}
use Rattle.items.specs.Items.{Items, stop, ask, ◌then◌, one, times}

-- a presence bit for each optional field in order, each a value; then what the fields that are present ask for
unfoldable pub presence : List ℕ → (List Bool → Items) → Items
presence [] k = k []
presence (zero ∷ flags) k = presence flags (λ ps. k (true ∷ ps))
presence (suc f ∷ flags) k = ask (number (pos 0) 1) (λ v. presence flags (λ ps. k (eqb (natural v) 1 ∷ ps)))

-- the fields that are present
unfoldable pub fields : (ℕ → Items) → List ℕ → List Bool → Items
fields g [] ps = stop
fields g (r ∷ rs) [] = stop
fields g (r ∷ rs) (true ∷ ps) = g r then fields g rs ps
fields g (r ∷ rs) (false ∷ ps) = fields g rs ps

-- a length from a least to a most, then so many octets
abbrev pub octets_within : ℕ → ℕ → Items
octets_within least most = ask (length_within least most) (λ v. times (natural v) (one (number (pos 0) 255)))

-- what a row asks for, with g for the rows that it refers to
unfoldable pub row_items : (ℕ → Items) → Row → Items
row_items g (Number low span) = one (number low span)
row_items g Variable = one variable
row_items g (FixedRun count r) = times count (g r)
row_items g (CountedRun most r) = ask (length_within 0 most) (λ v. times (natural v) (g r))
row_items g (Record rs flags) = presence flags (fields g rs)
row_items g (Choice rs) = ask (index (map there rs)) (λ v. g (get_or rs (natural v) 65535))
row_items g (Octets least most) = octets_within least most
row_items g Unknown = stop

-- what the row at o asks for
unfoldable pub items : List ℕ → ℕ → Items
items t = by_offset stop (λ o g. row_items g (row_at t o))

-- what the rows before o ask for
abbrev pub behind : List ℕ → ℕ → ℕ → Items
behind t o = earlier stop o (items t)

-- what a table asks for
unfoldable pub asks : List ℕ → Items
asks t = items t (root t)
