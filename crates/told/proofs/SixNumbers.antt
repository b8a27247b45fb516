-- The numbers that a host is told, for each outcome.
-- Assumes nothing.
use mathlib.Core.Path.{refl}
use Rattle.told.specs.Told.{SixNumbers}

pub six-numbers : SixNumbers
six-numbers = record { accepts = λ v b o. refl; refuses = λ n p. refl }
