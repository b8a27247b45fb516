-- A run of octets as values: each octet is the value of eight bits (document 01, "Bits and values").
use Rattle.std.specs.Prelude.{ℕ, Bool, List, map, ℤ, pos}
use Rattle.bits.specs.Bits.{pack}

-- the values of n octets that stand in front of bits
abbrev pub octet_values : ℕ → List Bool → List ℤ
octet_values n b = map pos (pack n b)
