-- The count of the headers' values, as a walk has it: for a private function. No contract of a public call cites this file.
use Rattle.std.specs.Prelude.{ℕ, List, length}
use Rattle.bits.specs.Bits.{unpack}
use Rattle.items.specs.Walk.{Walk, walked, blocked, walk}
use Rattle.userdata.specs.UserData.{enough, headers}

-- how many values a walk has, 0 where it is blocked
abbrev pub walk_count : Walk → ℕ
walk_count (walked vs at) = length vs
walk_count (blocked refusal) = 0

unfoldable pub header_count : List ℕ → ℕ
header_count s = walk_count (walk headers (unpack s) enough 0)
