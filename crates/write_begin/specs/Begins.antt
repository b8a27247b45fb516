-- Where choices lead, and what the writer of a row leaves to be written once the row's own items are: the parts that it refers to.
use Rattle.std.specs.Prelude.{ℕ, ◌+◌, ◌/◌, ◌%◌, ◌≤◌, ◌<◌, ◌^◌, Bool, ◌≡◌, List, ◌∷◌, eqb, ℤ, length, Result, Ok, Err}
use Rattle.octets.specs.Numbers.{u16}
use Rattle.rules.specs.Rules.{Starts, Earlier}
use Rattle.items.specs.Items.{Items, stop, times}
use Rattle.encoding.specs.Rows.{presence, items}
use Rattle.parts.specs.Parts.{NoChoice, number_row, marked_fields}
use Rattle.write_steps.specs.declared.Cursor.{Cursor}
use Rattle.write_steps.specs.Writes.{State, state_at, Writes, Continues}
use Rattle.answer.specs.declared.Refusal.{Refusal}
use Rattle.parts.specs.declared.Left.{Left}
use Rattle.parts.specs.declared.Left.TheVariants.{Nothing, Run, Numbers, Fields}

-- where choices lead: the row at an offset, which is left; or the refusal
abbrev pub Chosen : Type 0
Chosen = Result (ℕ × Cursor) Refusal

-- what a row's own items leave; or the refusal
abbrev pub Begun : Type 0
Begun = Result (Left × Cursor) Refusal

-- ── choices ──

-- a choice at o, chosen: refused; or the row of its branch, an earlier one, is left
abbrev pub Chooses : List ℕ → ℕ → List ℤ → State → List ℕ → Chosen → Type 0
Chooses t o list from output (Ok (row, to)) = Earlier t o row × Continues list (items t o) from (items t row) (state_at to output)
Chooses t o list from output (Err refusal) = Writes list (items t o) from output (Err refusal)

-- the choices from the row at o on: refused; or a row that is no choice, none behind o, is left
abbrev pub Leads : List ℕ → ℕ → List ℤ → State → List ℕ → Chosen → Type 0
Leads t o list from output (Ok (row, to)) =
    Starts t row × (row ≤ o) × NoChoice t row × Continues list (items t o) from (items t row) (state_at to output)
Leads t o list from output (Err refusal) = Writes list (items t o) from output (Err refusal)

-- ── other rows ──

-- the items p of the row at o, begun: refused; or what is left of them: a run or fields, on earlier rows, or numbers, of an earlier row
-- or its own
abbrev pub Begins : List ℕ → ℕ → List ℤ → Items → State → List ℕ → Begun → Type 0
Begins t o list p from output (Ok (Nothing, to)) = Continues list p from stop (state_at to output)
Begins t o list p from output (Ok (Run count row, to)) = Earlier t o row × Continues list p from (times count (items t row)) (state_at to output)
Begins t o list p from output (Ok (Numbers count row, to)) = (row + 12 ≤ length t) × Continues list p from (times count (number_row t row)) (state_at to output)
Begins t o list p from output (Ok (Fields mask, to)) =
    (u16 t (o + 2) ≡ 5) × (mask < 2 ^ u16 t (o + 4)) × Continues list p from (marked_fields (items t) t o mask) (state_at to output)
Begins t o list p from output (Err refusal) = Writes list p from output (Err refusal)

-- a field marked by its flag: always, or by a presence value; the mark stands lowest in the new mask
abbrev pub Marks : ℕ → ℕ → List ℤ → State → List ℕ → Result (ℕ × Cursor) Refusal → Type 0
Marks flag mask list from output (Ok (marked, to)) =
    (marked / 2 ≡ mask) × ((flags : List ℕ) (k : List Bool → Items)
    → Continues list (presence (flag ∷ flags) k) from (presence flags (λ ps. k (eqb (marked % 2) 1 ∷ ps))) (state_at to output))
Marks flag mask list from output (Err refusal) =
    (flags : List ℕ) (k : List Bool → Items) → Writes list (presence (flag ∷ flags) k) from output (Err refusal)
