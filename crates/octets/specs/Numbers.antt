-- The numbers that stand in octets, little-endian (document 01, "Row layout"). Octets past the end count as 0.
use Rattle.std.specs.Prelude.{ℕ, zero, suc, ◌+◌, ◌-◌, ◌*◌, Bool, cond, not, List, [], ◌∷◌, ltb, eqb, get_or, ℤ, pos, negsuc}

-- two octets
unfoldable pub u16 : List ℕ → ℕ → ℕ
u16 t o = get_or t o 0 + 256 * get_or t (o + 1) 0

-- four octets
unfoldable pub u32 : List ℕ → ℕ → ℕ
u32 t o = u16 t o + 65536 * u16 t (o + 2)

-- a number of 32 bits read as signed, in two's complement
unfoldable pub signed : ℕ → ℤ
signed n = cond (ltb n 2147483648) (pos n) (negsuc (4294967295 - n))

-- n numbers of two octets, from o on, a step apart
unfoldable pub u16s : List ℕ → ℕ → ℕ → ℕ → List ℕ
u16s t o step zero = []
u16s t o step (suc n) = u16 t o ∷ u16s t (o + step) step n

-- a reference of a choice that is no reserved branch (0xFFFF)
unfoldable pub there : ℕ → Bool
there r = not (eqb r 65535)
