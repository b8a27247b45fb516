-- House frames (document 01, "The bench program"): what octets begin with, how many of them whole frames take, and the line of a kind that a
-- program doesn't know.
use Rattle.std.specs.Prelude.{ℕ, zero, suc, ◌+◌, cond, List, [], ◌∷◌, ltb, length, drop}
use Rattle.octets.specs.Numbers.{u16}
use Rattle.lines.specs.Text.{number_line}
use Rattle.machine.specs.declared.Front.{Front}
use Rattle.machine.specs.declared.Front.TheVariants.{Whole, Part, Wrong}

-- what octets begin with. The first two are the length of the whole frame, the next two its kind; a length under 4 is no frame's.
unfoldable pub first_frame : List ℕ → Front
first_frame s =
    cond (ltb (length s) 4) Part
    (cond (ltb (u16 s 0) 4) Wrong
    (cond (ltb (length s) (u16 s 0)) Part
    (Whole (u16 s 0))))

-- how many octets whole frames take, from the first on, up to one that is wrong or isn't whole: a frame's size, and what those behind it take
abbrev pub whole_by : Front → (ℕ → ℕ) → ℕ
whole_by (Whole size) behind = size + behind size
whole_by Part behind = 0
whole_by Wrong behind = 0

-- of at most so many frames; octets have fewer than they are and one more
unfoldable pub whole_within : ℕ → List ℕ → ℕ
whole_within zero s = 0
whole_within (suc most) s = whole_by (first_frame s) (λ size. whole_within most (drop size s))

unfoldable pub whole_frames : List ℕ → ℕ
whole_frames s = whole_within (suc (length s)) s

-- `no kind K`
abbrev pub kind_line : ℕ → List ℕ
kind_line k = number_line (110 ∷ 111 ∷ 32 ∷ 107 ∷ 105 ∷ 110 ∷ 100 ∷ 32 ∷ []) k
