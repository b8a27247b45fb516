-- A run that is left to be read or written.
use Rattle.std.specs.Prelude.{ℕ, ◌+◌, cond, List, eqb}
use Rattle.octets.specs.Numbers.{u16}
use Rattle.parts.specs.declared.Left.{Left}
use Rattle.parts.specs.declared.Left.TheVariants.{Run, Numbers}

-- a run of the row at an offset: of numbers, where it is a number row
abbrev pub run_of : List ℕ → ℕ → ℕ → Left
run_of t count row = cond (eqb (u16 t (row + 2)) 1) (Numbers count row) (Run count row)
