-- Where choices lead, and what the reader of a row leaves to be read once the row's own items are: the parts that it refers to.
use Rattle.std.specs.Prelude.{ℕ, ◌+◌, ◌/◌, ◌%◌, ◌≤◌, ◌<◌, ◌^◌, Bool, true, cond, ◌≡◌, List, ◌∷◌, eqb, ℤ, length, Result, Ok, Err}
use Rattle.octets.specs.Numbers.{u16, there}
use Rattle.items.specs.Items.{Items, stop, times}
use Rattle.encoding.specs.Rows.{presence}
use Rattle.parts.specs.Parts.{NoChoice, Refers, number_row, marked_fields}
use Rattle.guard.specs.Readable.{asks_at, asks_from, Readable}
use Rattle.read_steps.specs.declared.Cursor.{Cursor}
use Rattle.read_steps.specs.Reads.{State, state_at, Reads, Continues}
use Rattle.answer.specs.declared.Refusal.{Refusal}
use Rattle.parts.specs.declared.Left.{Left}
use Rattle.parts.specs.declared.Left.TheVariants.{Nothing, Run, Numbers, Fields}

-- where choices lead: the row at an offset, which is left; or the refusal
abbrev pub Chosen : Type 0
Chosen = Result (ℕ × Cursor) Refusal

-- what a row's own items leave; or the refusal
abbrev pub Begun : Type 0
Begun = Result (Left × Cursor) Refusal

-- ── choices ──

-- a choice at o, chosen: refused; or the row of its branch, one that is there, is left
abbrev pub Chooses : List ℕ → ℕ → List ℕ → ℕ → State → List ℤ → List ℕ → Chosen → Type 0
Chooses t o message room from values packed (Ok (row, to)) =
    Refers t o row × (there row ≡ true) × Continues message room (asks_at t o) from (asks_from t o row) (state_at to values packed)
Chooses t o message room from values packed (Err refusal) = Reads message room (asks_at t o) from values packed (Err refusal)

-- the choices from the row at o on: refused; or a row that is no choice, none behind o, is left, the row at o if that is none
abbrev pub Leads : List ℕ → ℕ → List ℕ → ℕ → State → List ℤ → List ℕ → Chosen → Type 0
Leads t o message room from values packed (Ok (row, to)) =
    Readable t row × (row ≤ o) × NoChoice t row × (NoChoice t o → row ≡ o) × Continues message room (asks_at t o) from (asks_at t row) (state_at to values packed)
Leads t o message room from values packed (Err refusal) = Reads message room (asks_at t o) from values packed (Err refusal)

-- ── other rows ──

-- the items p of the row at o, begun: refused; or what is left of them: a run or fields, on earlier rows, or numbers, of an earlier row
-- or its own
abbrev pub Begins : List ℕ → ℕ → List ℕ → ℕ → Items → State → List ℤ → List ℕ → Begun → Type 0
Begins t o message room p from values packed (Ok (Nothing, to)) = Continues message room p from stop (state_at to values packed)
Begins t o message room p from values packed (Ok (Run count row, to)) =
    Readable t row × (row < o) × Continues message room p from (times count (asks_at t row)) (state_at to values packed)
Begins t o message room p from values packed (Ok (Numbers count row, to)) =
    (row + 12 ≤ length t) × Continues message room p from (times count (number_row t row)) (state_at to values packed)
Begins t o message room p from values packed (Ok (Fields mask, to)) =
    (u16 t (o + 2) ≡ 5) × (mask < 2 ^ u16 t (o + 4)) × Continues message room p from (marked_fields (asks_from t o) t o mask) (state_at to values packed)
Begins t o message room p from values packed (Err refusal) = Reads message room p from values packed (Err refusal)

-- a field marked by its flag: always, or by a presence bit; the mark stands lowest in the new mask
abbrev pub Marks : ℕ → ℕ → List ℕ → ℕ → State → List ℤ → List ℕ → Result (ℕ × Cursor) Refusal → Type 0
Marks flag mask message room from values packed (Ok (marked, to)) =
    (marked / 2 ≡ mask) × ((flags : List ℕ) (k : List Bool → Items)
    → Continues message room (presence (flag ∷ flags) k) from (presence flags (λ ps. k (eqb (marked % 2) 1 ∷ ps))) (state_at to values packed))
Marks flag mask message room from values packed (Err refusal) =
    (flags : List ℕ) (k : List Bool → Items) → Reads message room (presence (flag ∷ flags) k) from values packed (Err refusal)
