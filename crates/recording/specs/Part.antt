-- A call for one part of a recording, from a given list: its answer, the list after it, and what its text then holds. A text with room for
-- four octets for each of the part, and 64 more, has room for whatever the part gives.
use Rattle.std.specs.Prelude.{ℕ, ◌+◌, ◌*◌, Bool, cond, List, [], leb, length}
use Rattle.answer.specs.Numbers.{no_room, refused, accepted}
use Rattle.items.specs.Slices.{filled}
use Rattle.machine.specs.Machine.{given}
use Rattle.house.specs.House.{whole_frames}
use Rattle.seen.specs.declared.Seen.{Seen}
use Rattle.drive.specs.Replay.{replay}
use Rattle.recording.specs.declared.Replayed.{Replayed}

-- whether a text of cap octets has room for the lines of a part
abbrev pub fits : List ℕ → ℕ → Bool
fits octets cap = leb (4 * length octets + 64) cap

-- a part that the text has room for: the list that it leaves, and how many of its octets whole frames take and how many the text has
abbrev pub replayed_whole : List ℕ → List Seen → Replayed
replayed_whole octets rs = record { seen = (given replay rs octets).left; answer = accepted (whole_frames octets) 0 (length (given replay rs octets).text) }

-- and one that it hasn't: the list is as it was
abbrev pub replayed_not : List Seen → Replayed
replayed_not rs = record { seen = rs; answer = refused no_room 0 }

-- the list after a call, and its answer
abbrev pub replayed_in : List ℕ → List Seen → ℕ → Replayed
replayed_in octets rs cap = cond (fits octets cap) (replayed_whole octets rs) (replayed_not rs)

-- accepted, the text, and zeros after it; refused, zeros
abbrev pub text_left : List ℕ → List Seen → ℕ → List ℕ
text_left octets rs cap = filled 0 cap (cond (fits octets cap) (given replay rs octets).text [])
