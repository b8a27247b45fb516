-- What the rows of a loaded state ask for, whatever octets it holds (document 02, ticket 3: for a state made otherwise only demand 1
-- holds). A state begins with 4,096 octets of rows; then, at half the offset of each row, stands its depth, and 0 where no row starts.
-- Nobody checked either, so a row that is referred to is read only if it stands earlier, has a depth, a lower one, and fits: it lies in
-- the 4,096 octets, its kind is known and its count is one of its kind's. In place of any other row, and of a run or a record that
-- refers to any other row, stands an item that no message meets: refusal 4 at that place. So every reading ends, no more than 32 rows
-- deep, whatever the octets are.
-- Where the state is that of a table that obeys the rules, its rows ask for what the table's do: Sound. The proofs are in proofs/Guarded.antt.
use Rattle.std.specs.Prelude.{ℕ, ◌+◌, ◌/◌, ◌≤◌, ◌<◌, Bool, true, cond, ◌&&◌, ◌≡◌, List, [], ◌∷◌, leb, ltb, eqb, get_or}
use Rattle.octets.specs.Numbers.{u16}
use Rattle.item.specs.Code.{index}
use Rattle.row.specs.Offsets.{by_offset}
use Rattle.row.specs.Rows.{within, Row, Number, Variable, FixedRun, CountedRun, Record, Choice, Octets, Unknown, row_at}
use Rattle.row.specs.Kinds.{length_of, least_count, most_count, count_of, may_reserve}
use Rattle.rules.specs.Rules.{Starts, Obeys, depth}
use Rattle.items.specs.Items.{Items, stop, one}
use Rattle.encoding.specs.Rows.{row_items, items}

-- ── rows that can be read ──

-- a row of a kind can be read at o
unfoldable pub fits_as : List ℕ → ℕ → ℕ → Bool
fits_as st o kind =
    leb (o + 4) 4096 && (within 1 8 kind
    && (leb (o + length_of kind (count_of st o kind)) 4096
    && within (least_count kind) (most_count kind) (count_of st o kind)))

-- the row at o can be read
abbrev pub fits : List ℕ → ℕ → Bool
fits st o = fits_as st o (u16 st (o + 2))

-- the depth that a state has of the row at o
unfoldable pub held_depth : List ℕ → ℕ → ℕ
held_depth st o = get_or st (4096 + o / 2) 0

-- from the row at o, that at r can be read
unfoldable pub leads : List ℕ → ℕ → ℕ → Bool
leads st o r = ltb r o && (ltb 0 (held_depth st r) && (ltb (held_depth st r) (held_depth st o) && fits st r))

unfoldable pub all_lead : List ℕ → ℕ → List ℕ → Bool
all_lead st o [] = true
all_lead st o (r ∷ rs) = leads st o r && all_lead st o rs

-- the rows that a run or a record at o refers to can be read. Of a choice, that of the branch is looked at once it is chosen
unfoldable pub opens : List ℕ → ℕ → Row → Bool
opens st o (Number low span) = true
opens st o Variable = true
opens st o (FixedRun count r) = leads st o r
opens st o (CountedRun most r) = leads st o r
opens st o (Record rs fs) = all_lead st o rs
opens st o (Choice rs) = true
opens st o (Octets least most) = true
opens st o Unknown = true

-- the row at o can be the root: no row is deeper than 32
unfoldable pub enters : List ℕ → ℕ → Bool
enters st o = within 1 32 (held_depth st o) && fits st o

-- ── what they ask for ──

-- an item that no bits meet
abbrev pub never : Items
never = one (index [])

-- what the row at r asks for, from the row at o, with g for the rows before o. No index chooses a reserved branch
unfoldable pub from : List ℕ → ℕ → (ℕ → Items) → ℕ → Items
from st o g r = cond (may_reserve (u16 st (o + 2)) && eqb r 65535) stop (cond (leads st o r) (g r) never)

-- what the row at o asks for
unfoldable pub guarded : List ℕ → ℕ → Items
guarded st = by_offset never (λ o g. cond (opens st o (row_at st o)) (row_items (from st o g) (row_at st o)) never)

-- what a state asks for, whose root is at o
unfoldable pub guarded_root : List ℕ → ℕ → Items
guarded_root st o = cond (enters st o) (guarded st o) never

-- no more than 32 rows are read inside one another: from the root, which is 32 deep at most, each stands earlier and is less deep than
-- the one before it, and none has the depth 0
pub record Bounded : Type 0 where
  pub root : (st : List ℕ) (o : ℕ) → enters st o ≡ true → held_depth st o ≤ 32
  pub falls : (st : List ℕ) (o r : ℕ) → leads st o r ≡ true → (r < o) × (0 < held_depth st r) × (held_depth st r < held_depth st o)

-- ── of a table that obeys the rules ──

-- a state has a table's octets in front, with zeros after them, and the depth of each of its rows
pub record HoldsTable (st t : List ℕ) : Type 0 where
  pub octets : (i : ℕ) → i < 4096 → get_or st i 0 ≡ get_or t i 0
  pub depths : (o : ℕ) → Starts t o → held_depth st o ≡ depth t o

-- each of its rows asks for what that of the table does
pub record Sound : Type 0 where
  pub sound : (st t : List ℕ) → Obeys t → HoldsTable st t → (o : ℕ) → Starts t o → guarded_root st o ≡ items t o
