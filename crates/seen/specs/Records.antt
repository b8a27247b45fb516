-- A list of seen records (document 02, ticket 7): when a record is live, whether a live one has an ID, and which is the first that
-- isn't live. Times are whole numbers of milliseconds: nothing wraps.
use Rattle.std.specs.Prelude.{ℕ, zero, suc, ◌-◌, Bool, true, false, not, cond, ◌&&◌, ◌||◌, List, [], ◌∷◌, ltb, eqb}
use Rattle.seen.specs.declared.Seen.{Seen}

-- how long a record is live
abbrev pub life : ℕ
life = 5000

-- in use, and its time is later than t or less than 5,000 before t
abbrev pub live_at : ℕ → Seen → Bool
live_at t r = r.used && (ltb t r.time || ltb (t - r.time) life)

-- the index of the first record that passes a test, or the count where none does
abbrev pub first_with : (Seen → Bool) → List Seen → ℕ
first_with p [] = zero
first_with p (r ∷ rs) = cond (p r) zero (suc (first_with p rs))

-- whether a live record has the ID
abbrev pub holds : ℕ → ℕ → List Seen → Bool
holds id t [] = false
holds id t (r ∷ rs) = (eqb r.id id && live_at t r) || holds id t rs

-- the index of the first record that isn't live, or the count where all are
abbrev pub first_free : ℕ → List Seen → ℕ
first_free t rs = first_with (λ r. not (live_at t r)) rs

-- the record of an ID that is stored at a time
abbrev pub record_of : ℕ → ℕ → Seen
record_of id t = record { id = id; time = t; used = true }

-- what stands for a record past the end of a list
abbrev pub blank : Seen
blank = record { id = 0; time = 0; used = false }
