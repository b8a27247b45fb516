-- What document 01's table of rows, with document 02's kind 8, says by the number of a kind. The contracts of the row type cite it. A reader
-- need not believe that it says the same as Rows.antt and rules' specs/Rules.antt: what the check passes is Demand3's `checks`.
use Rattle.std.specs.Prelude.{ℕ, ◌+◌, ◌*◌, Bool, cond, List, eqb}
use Rattle.octets.specs.Numbers.{u16}
use Rattle.row.specs.Rows.{within}

-- one of eight, by the number of a kind: number, variable number, fixed run, counted run, record, choice, octets, open octets; the
-- last for any other
unfoldable pub by_kind : {A : Type 0} → A → A → A → A → A → A → A → A → A → ℕ → A
by_kind number variable fixed counted group choice octets open_octets other kind =
    cond (eqb kind 1) number
    (cond (eqb kind 2) variable
    (cond (eqb kind 3) fixed
    (cond (eqb kind 4) counted
    (cond (eqb kind 5) group
    (cond (eqb kind 6) choice
    (cond (eqb kind 7) octets
    (cond (eqb kind 8) open_octets
    other)))))))

-- the length of a row with that count
unfoldable pub length_of : ℕ → ℕ → ℕ
length_of kind count = by_kind 12 4 8 8 (6 + 4 * count) (6 + 2 * count) 6 6 0 kind

-- whether a count stands after the kind
abbrev pub has_count : ℕ → Bool
has_count = within 3 8

unfoldable pub least_count : ℕ → ℕ
least_count = by_kind 0 0 1 1 1 2 0 1 0

unfoldable pub most_count : ℕ → ℕ
most_count = by_kind 0 0 1024 16383 32 128 16383 16383 0

-- the count of the row at o as one of a kind, 0 where there is none
unfoldable pub count_of : List ℕ → ℕ → ℕ → ℕ
count_of t o kind = cond (has_count kind) (u16 t (o + 4)) 0

-- whether a row of a kind is octets, and the least length that these may have
abbrev pub is_octets : ℕ → Bool
is_octets = within 7 8

unfoldable pub least_length : ℕ → ℕ
least_length kind = cond (eqb kind 8) 1 0

-- how many references stand in a row, reserved branches too, and how far apart
unfoldable pub reference_count : ℕ → ℕ → ℕ
reference_count kind count = by_kind 0 0 1 1 count count 0 0 0 kind

unfoldable pub reference_step : ℕ → ℕ
reference_step kind = cond (eqb kind 5) 4 2

-- whether a row may have reserved branches
abbrev pub may_reserve : ℕ → Bool
may_reserve kind = eqb kind 6

-- how many flags stand in a row
unfoldable pub flag_count : ℕ → ℕ → ℕ
flag_count kind count = cond (eqb kind 5) count 0

-- how deep the deepest row that a row refers to is at least
unfoldable pub least_below : ℕ → ℕ
least_below kind = cond (eqb kind 6) 1 0
