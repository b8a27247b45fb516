-- What the lent slice holds after a call, to its end (document 01: after each call the output is the answer followed by zeros;
-- after a refusal zeros only). The contracts of the calls cite these names; Filled.antt says what `filled` is, place by place.
use Rattle.std.specs.Prelude.{ℕ, ◌-◌, List, ◌++◌, ℤ, pos, length, replicate}
use Rattle.values.specs.Values.{list_octets}
use Rattle.items.specs.Reading.{ReadOutcome, read_values}
use Rattle.items.specs.Writing.{WriteOutcome, write_octets}

-- a list at the front of a slice of n, and zeros after it
abbrev pub filled : {A : Type 0} → A → ℕ → List A → List A
filled z n xs = xs ++ replicate (n - length xs) z

-- the value slice after reading
abbrev pub values_after : ℕ → ReadOutcome → List ℤ
values_after room outcome = filled (pos 0) room (read_values outcome)

-- the same slice as octets, eight for each value: those of the list, then zeros to its end, which need not be a whole eight
abbrev pub packed_after : ℕ → ReadOutcome → List ℕ
packed_after size outcome = filled 0 size (list_octets (read_values outcome))

-- the output after writing
abbrev pub output_after : ℕ → WriteOutcome → List ℕ
output_after cap outcome = filled 0 cap (write_octets outcome)
