-- How many rows reading and writing visit, each time anew: as many as the root is deep, and so many again for each value, at most.
-- They are counted over the definitions, by marks in what a table asks for (encoding's specs/Rows.antt). The check of the table,
-- which comes first, isn't counted. The proof is proofs/Visits.antt.
use Rattle.std.specs.Prelude.{ℕ, zero, suc, ◌+◌, ◌-◌, ◌*◌, ◌≤◌, min, Bool, true, false, cond, ◌&&◌, ◌≡◌, List, [], ◌∷◌, leb, ℤ, pos, length}
use Rattle.bits.specs.Bits.{unpack}
use Rattle.bits.specs.Access.{most_octets}
use Rattle.item.specs.Code.{Code, number, variable, length_within, index, Got, got, bad, allows, value_bits, decode_item}
use Rattle.row.specs.Offsets.{by_offset}
use Rattle.row.specs.Rows.{row_at}
use Rattle.rules.specs.Rules.{Starts, Obeys, depth}
use Rattle.table.specs.Root.{root}
use Rattle.items.specs.Items.{Items, stop, ask, Allows}
use Rattle.encoding.specs.Rows.{row_items, items}

-- ── marks ──

-- a mark stands among items as one with a code of its own: a length of at least 1 and at most 0, which the rules let no row ask for
unfoldable pub mark : Code
mark = length_within 1 0

abbrev pub is_mark : Code → Bool
is_mark (number low span) = false
is_mark variable = false
is_mark (length_within zero most) = false
is_mark (length_within (suc least) zero) = true
is_mark (length_within (suc least) (suc most)) = false
is_mark (index branches) = false

-- what the row at o asks for, as `items` says it, with a mark in front of what each row asks for
unfoldable pub marked : List ℕ → ℕ → Items
marked t = by_offset stop (λ o g. ask mark (λ v. row_items g (row_at t o)))

-- items without their marks
abbrev pub unmarked : Items → Items
unmarked stop = stop
unmarked (ask c k) = cond (is_mark c) (unmarked (k (pos 0))) (ask c (λ v. unmarked (k v)))

-- ── the rows that are visited: the marks that are passed, up to the end or a refusal ──

-- after an item that is read, as in read_one (items' specs/Reading.antt): none after a refusal, or where its value has no room
abbrev pub once_read : Got ℤ → ℕ → (ℤ → List Bool → ℕ → ℕ) → ℕ
once_read (bad n) room f = 0
once_read (got v b) zero f = 0
once_read (got v b) (suc room) f = f v b room

-- in reading items from bits, with room for some values, as in read_items
abbrev pub read_visits : Items → List Bool → ℕ → ℕ
read_visits stop b room = 0
read_visits (ask c k) b room =
    cond (is_mark c) (suc (read_visits (k (pos 0)) b room)) (once_read (decode_item c b) room (λ v b' room'. read_visits (k v) b' room'))

-- after an item that is written, as in write_items (items' specs/Writing.antt): none after a value that is missing, isn't allowed or
-- has no room
abbrev pub once_written : Code → List ℤ → ℕ → (ℤ → List ℤ → ℕ → ℕ) → ℕ
once_written c [] room f = 0
once_written c (v ∷ vs) room f = cond (allows c v && leb (length (value_bits c v)) room) (f v vs (room - length (value_bits c v))) 0

-- in writing values as items, with room for some bits
abbrev pub write_visits : Items → List ℤ → ℕ → ℕ
write_visits stop vs room = 0
write_visits (ask c k) vs room =
    cond (is_mark c) (suc (write_visits (k (pos 0)) vs room)) (once_written c vs room (λ v vs' room'. write_visits (k v) vs' room'))

-- in reading octets under a table that passes, with room for some values; a message that is empty or too long is refused before
abbrev pub visited_in_reading : List ℕ → List ℕ → ℕ → ℕ
visited_in_reading t s room = read_visits (marked t (root t)) (unpack s) room

-- in writing a list into cap octets
abbrev pub visited_in_writing : List ℕ → List ℤ → ℕ → ℕ
visited_in_writing t vs cap = write_visits (marked t (root t)) vs (8 * min cap most_octets)

-- ── how many ──

pub record Visits (t : List ℕ) : Type 0 where
  -- without the marks it is what the row asks for
  pub same : Obeys t → (o : ℕ) → Starts t o → unmarked (marked t o) ≡ items t o
  -- every row asks for at least one value
  pub some : Obeys t → (o : ℕ) → Starts t o → (vs : List ℤ) → Allows (items t o) vs → 1 ≤ length vs
  -- from a row on no more are visited than it is deep, itself among them, and so many again for each value that there is room for
  pub read_from : Obeys t → (o : ℕ) → Starts t o → (b : List Bool) (room : ℕ) → read_visits (marked t o) b room ≤ depth t o * (room + 1)
  -- and in writing, for each value of the list
  pub written_from : Obeys t → (o : ℕ) → Starts t o → (vs : List ℤ) (room : ℕ) → write_visits (marked t o) vs room ≤ depth t o * (length vs + 1)
  -- so a call visits no more than these, for no row is deeper than 32
  pub reading : Obeys t → (s : List ℕ) (room : ℕ) → visited_in_reading t s room ≤ 32 * (room + 1)
  pub writing : Obeys t → (vs : List ℤ) (cap : ℕ) → visited_in_writing t vs cap ≤ 32 * (length vs + 1)
