-- One item: the bits of one value (document 01, "Bits and values"). For each kind of item: which values it allows, their
-- bits, and how bits are read, with the refusal's number.
-- X.691 (unaligned): a number is a constrained whole number, 11.5; a length is a general length determinant below 16K, 11.9;
-- an index is that of a choice, 23. A variable number is ISO 17419's, a nest of choices whose innermost range is extensible.
-- Definitions alone; nothing here mentions the code.
use Rattle.std.specs.Prelude.{ℕ, zero, suc, ◌+◌, ◌-◌, ◌*◌, min, Bool, true, false, cond, ◌&&◌, List, [], ◌∷◌, ◌++◌, leb, ltb, ℤ, pos, negsuc, ◌+ℤ◌, ◌-ℤ◌, length, take, drop, get_or}
use Rattle.bits.specs.Bits.{number_of, bits_of, width}
use Rattle.answer.specs.Numbers.{message_ends, above_span, no_branch, bad_length, outside_limits, bad_variable}

-- the kinds of item
pub data Code : Type 0 where
  number : ℤ → ℕ → Code  -- a number: low, span
  variable : Code  -- a variable number
  length_within : ℕ → ℕ → Code  -- a length: least and most, which belong to its row
  index : List Bool → Code  -- an index: for each branch, whether it is there (not reserved)

-- ── which values, and their bits ──

-- an item's bits hold its value's offset: the distance above low, and the value itself where there is no low
abbrev pub low_of : Code → ℤ
low_of (number low span) = low
low_of variable = pos 0
low_of (length_within least most) = pos 0
low_of (index branches) = pos 0

-- c ones and a zero
abbrev pub leading : ℕ → List Bool
leading zero = false ∷ []
leading (suc c) = true ∷ leading c

-- c ones, a zero, then 7 bits and 7 more for each one: 8, 16, 24 or 32 bits in all
abbrev pub spelling : ℕ → ℕ → List Bool
spelling c m = leading c ++ bits_of (7 * suc c) m

-- what is added to a variable number's bits after c ones
abbrev pub base : ℕ → ℕ
base zero = 0
base (suc zero) = 128
base (suc (suc zero)) = 16512
base (suc (suc (suc c))) = 2113664

-- how many ones a variable number has in front
abbrev pub variable_ones : ℕ → ℕ
variable_ones n = cond (ltb n 128) 0 (cond (ltb n 16512) 1 (cond (ltb n 2113664) 2 3))

-- how many ones a length has in front: 0 up to 127, else 1
abbrev pub length_ones : ℕ → ℕ
length_ones n = cond (ltb n 128) 0 1

-- the bits of an index: the smallest k with 2 ^ k at least the count of branches
abbrev pub index_width : List Bool → ℕ
index_width branches = width (length branches - 1)

-- whether an offset is allowed
abbrev pub allows_offset : Code → ℕ → Bool
allows_offset (number low span) n = leb n span
allows_offset variable n = leb n 270549119
allows_offset (length_within least most) n = leb least n && leb n (min most 16383)
allows_offset (index branches) n = get_or branches n false

-- the bits of an offset that is allowed
abbrev pub offset_bits : Code → ℕ → List Bool
offset_bits (number low span) n = bits_of (width span) n
offset_bits variable n = spelling (variable_ones n) (n - base (variable_ones n))
offset_bits (length_within least most) n = spelling (length_ones n) n
offset_bits (index branches) n = bits_of (index_width branches) n

-- an integer as a natural number, 0 where it is negative
abbrev pub natural : ℤ → ℕ
natural (pos n) = n
natural (negsuc n) = 0

abbrev pub of_natural : (ℕ → Bool) → ℤ → Bool
of_natural f (pos n) = f n
of_natural f (negsuc n) = false

-- whether an item allows a value
abbrev pub allows : Code → ℤ → Bool
allows c v = of_natural (allows_offset c) (v -ℤ low_of c)

-- the bits of a value
abbrev pub value_bits : Code → ℤ → List Bool
value_bits c v = offset_bits c (natural (v -ℤ low_of c))

-- ── how bits are read ──

-- what reading an item gives: what was read and the bits after it, or a refusal's number
pub data Got (A : Type 0) : Type 0 where
  got : A → List Bool → Got A
  bad : ℕ → Got A

-- a reading, provided that a test holds; else the refusal
abbrev pub provided : {A : Type 0} → Bool → ℕ → Got A → Got A
provided true n g = g
provided false n g = bad n

-- k bits as a number, and what is made of it
abbrev pub bit_field : {A : Type 0} → ℕ → List Bool → (ℕ → List Bool → Got A) → Got A
bit_field k b f = provided (leb k (length b)) message_ends (f (number_of (take k b)) (drop k b))

-- how many ones stand in front, counted up to top
abbrev pub ones_up_to : ℕ → List Bool → ℕ
ones_up_to zero b = 0
ones_up_to (suc t) [] = 0
ones_up_to (suc t) (false ∷ b) = 0
ones_up_to (suc t) (true ∷ b) = suc (ones_up_to t b)

-- an item of whole octets: the message must hold its first 8 bits; as many ones as top are refused as form; then its other
-- bits must be there
abbrev pub octet_field : {A : Type 0} → ℕ → ℕ → List Bool → (ℕ → ℕ → List Bool → Got A) → Got A
octet_field top form b f =
    provided (leb 8 (length b)) message_ends
    (provided (ltb (ones_up_to top b) top) form
    (bit_field (7 * suc (ones_up_to top b)) (drop (suc (ones_up_to top b)) b) (f (ones_up_to top b))))

-- the least length that c ones may spell
abbrev pub least_of : ℕ → ℕ
least_of zero = 0
least_of (suc c) = 128

-- an item's offset
abbrev pub decode_offset : Code → List Bool → Got ℕ
decode_offset (number low span) b = bit_field (width span) b (λ n r. provided (leb n span) above_span (got n r))
decode_offset variable b = octet_field 4 bad_variable b (λ c m r. got (base c + m) r)
decode_offset (length_within least most) b =
    octet_field 2 bad_length b (λ c m r. provided (leb (least_of c) m) bad_length (provided (leb least m && leb m most) outside_limits (got m r)))
decode_offset (index branches) b = bit_field (index_width branches) b (λ n r. provided (get_or branches n false) no_branch (got n r))

abbrev pub above : ℤ → Got ℕ → Got ℤ
above low (got n r) = got (low +ℤ pos n) r
above low (bad n) = bad n

-- an item's value
abbrev pub decode_item : Code → List Bool → Got ℤ
decode_item c b = above (low_of c) (decode_offset c b)
