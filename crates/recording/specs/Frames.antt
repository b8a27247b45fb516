-- The whole frames of a part, as code plays them. No contract of a public call cites this file.
use Rattle.std.specs.Prelude.{ℕ, ◌+◌, ◌*◌, ◌≤◌, ◌≡◌, List, ◌++◌, length, take, drop}
use Rattle.machine.specs.declared.Front.TheVariants.{Whole}
use Rattle.machine.specs.Machine.{Gives}
use Rattle.house.specs.House.{first_frame, whole_frames}
use Rattle.seen.specs.declared.Seen.{Seen}
use Rattle.drive.specs.Replay.{replay}

-- Whole frames are played up to an index of the octets: what the octets behind it give, behind the lines that the text holds up to its end,
-- is what all of them give.
pub record PlayingUp (start : List Seen) (octets : List ℕ) (seen : List Seen) (taken : ℕ) (text : List ℕ) (end : ℕ) : Type 0 where
  pub within : taken ≤ length octets
  pub count : whole_frames octets ≡ taken + whole_frames (drop taken octets)
  pub short : end ≤ 4 * taken
  pub gives : (rest : List ℕ) (left : List Seen) → Gives replay seen (drop taken octets) rest left → Gives replay start octets (take end text ++ rest) left

-- and none is behind it
pub record PlayedUp (start : List Seen) (octets : List ℕ) (seen : List Seen) (taken : ℕ) (text : List ℕ) (end : ℕ) : Type 0 where
  pub playing : PlayingUp start octets seen taken text end
  pub last : (size : ℕ) → first_frame (drop taken octets) ≡ Whole size → ⊥
