-- How much of the input came before a unit.
use Rattle.std.specs.Prelude.{ℕ, ◌+◌, min}
use Rattle.machine.specs.declared.Before.{Before}

-- a count stops at the largest number of 64 bits; no input is that long
abbrev pub counted : ℕ → ℕ
counted n = min n 18446744073709551615

-- before the first unit, and behind one of a size
abbrev pub nothing : Before
nothing = record { octets = 0; units = 0 }

abbrev pub after_unit : Before → ℕ → Before
after_unit b size = record { octets = counted (b.octets + size); units = counted (b.units + 1) }
