-- Writing items from an index of a list whose values stay: what the writer of a row is proved against. It is write_items from
-- the value at that index on, with the index after in place of the values left over.
use Rattle.std.specs.Prelude.{ℕ, ◌+◌, ◌-◌, Bool, cond, List, ◌++◌, eqb, ltb, ℤ, length, drop}
use Rattle.answer.specs.Numbers.{no_room, wrong_value, refusal_at}
use Rattle.answer.specs.declared.Refusal.{Refusal}
use Rattle.items.specs.Items.{Items}
use Rattle.items.specs.Encoding.{padded}
use Rattle.items.specs.Writing.{Writing, spelt, halted, write_items, WriteOutcome, written, unwritten}

-- the bits and the index after their values; or a refusal, whose place is its value's index
pub data Spell : Type 0 where
  spelled : List Bool → ℕ → Spell
  barred : Refusal → Spell

-- a writing from index i on, where n values stood
abbrev pub counted : ℕ → ℕ → Writing → Spell
counted i n (spelt b left) = spelled b (i + (n - length left))
counted i n (halted refusal) = barred refusal

-- items from index i of a list on, with room for some bits
unfoldable pub spell : Items → List ℤ → ℕ → ℕ → Spell
spell p vs room i = counted i (length (drop i vs)) (write_items p (drop i vs) room i)

abbrev pub following : List Bool → Spell → Spell
following a (spelled b i) = spelled (a ++ b) i
following a (barred refusal) = barred refusal

-- one spelling after another
abbrev pub next : ℕ → Spell → (ℕ → ℕ → Spell) → Spell
next room (spelled b i) f = following b (f (room - length b) i)
next room (barred refusal) f = barred refusal

-- of a list of n values into cap octets, from its first: close_write (Writing.antt) by the index after; left over values, then
-- 8 for a root of 0 bits and no output
abbrev pub close_spell : ℕ → ℕ → Spell → WriteOutcome
close_spell n cap (barred refusal) = unwritten refusal
close_spell n cap (spelled b i) = cond (ltb i n) (unwritten (refusal_at wrong_value i)) (cond (eqb cap 0) (unwritten (refusal_at no_room n)) (written (padded b)))
