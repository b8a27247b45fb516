-- What the form of an item of whole octets answers, which reading and writing share. No contract of a public call cites this file.
use Rattle.std.specs.Prelude.{ℕ, suc, ◌-◌, ◌*◌, ◌^◌}

-- what c ones and a zero are worth above 7 bits and 7 more for each one
unfoldable pub leading_worth : ℕ → ℕ
leading_worth c = (2 ^ suc c - 2) * 2 ^ (7 * suc c)
