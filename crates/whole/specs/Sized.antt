-- A number that is so many whole octets.
use Rattle.std.specs.Prelude.{ℕ, ◌-◌, ◌*◌, ◌^◌, pos}
use Rattle.item.specs.Code.{number}
use Rattle.items.specs.Items.{Items, one}

abbrev pub number_sized : ℕ → Items
number_sized octets = one (number (pos 0) (2 ^ (8 * octets) - 1))
