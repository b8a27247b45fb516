-- The reason that the code gives for a part has the part's number.
-- Assumes nothing.
use mathlib.Core.Path.{◌≡◌, refl}
use Rattle.answer.specs.Numbers.{reason_number}
use Rattle.rules.specs.Rules.{Part, its_end, its_kind, its_length, its_numbers, its_references, its_branch, its_depth, part_number}
use Rattle.rules.specs.Steps.{part_reason}

pub reason-part : (part : Part) → part_number part ≡ reason_number (part_reason part)
reason-part its_end = refl
reason-part its_kind = refl
reason-part its_length = refl
reason-part its_numbers = refl
reason-part its_references = refl
reason-part its_branch = refl
reason-part its_depth = refl
