-- What a search is for, as code passes it. No contract of a public call cites this file: proofs/Searches.antt says what the
-- searches find, in the words of Records.antt.
use Rattle.std.specs.Prelude.{ℕ, Bool, true, not, ◌&&◌, eqb}
use Rattle.seen.specs.declared.Seen.{Seen}
use Rattle.seen.specs.declared.Sought.{Sought}
use Rattle.seen.specs.declared.Sought.TheVariants.{Id, Free, Any}
use Rattle.seen.specs.declared.Want.{Want}
use Rattle.seen.specs.Records.{live_at}

-- a search for any record, at a time
abbrev pub any_record : ℕ → Want
any_record t = record { time = t; sought = Any }

-- whether a record is what a search at a time is for: a live one with the ID; one that isn't live; any
abbrev pub sought_by : Sought → ℕ → Seen → Bool
sought_by (Id id) t r = eqb r.id id && live_at t r
sought_by Free t r = not (live_at t r)
sought_by Any t r = true

abbrev pub wanted_by : Want → Seen → Bool
wanted_by w r = sought_by w.sought w.time r
