-- Five octets of a list as one number of 40 bits: how fetching and storing go about it. No contract of a public call
-- cites this file.
use Rattle.std.specs.Prelude.{ℕ, ◌+◌, ◌*◌, ◌/◌, ◌%◌, ◌^◌, List, get_or, set}

-- the four octets from i on, the first on top
abbrev pub four_at : List ℕ → ℕ → ℕ
four_at m i = get_or m i 0 * 16777216 + get_or m (i + 1) 0 * 65536 + get_or m (i + 2) 0 * 256 + get_or m (i + 3) 0

-- the five octets from i on
abbrev pub window_at : List ℕ → ℕ → ℕ
window_at m i = get_or m i 0 * 4294967296 + get_or m (i + 1) 0 * 16777216 + get_or m (i + 2) 0 * 65536 + get_or m (i + 3) 0 * 256 + get_or m (i + 4) 0

-- and those of a number put in their place
abbrev pub with_window : List ℕ → ℕ → ℕ → List ℕ
with_window m i w = set (set (set (set (set m i (w / 4294967296 % 256)) (i + 1) (w / 16777216 % 256)) (i + 2) (w / 65536 % 256)) (i + 3) (w / 256 % 256)) (i + 4) (w % 256)

-- the number w with the k bits of v above its lowest t
abbrev pub placed : ℕ → ℕ → ℕ → ℕ → ℕ
placed w t k v = (w / 2 ^ t / 2 ^ k * 2 ^ k + v) * 2 ^ t + w % 2 ^ t
