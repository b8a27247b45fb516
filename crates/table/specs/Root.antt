-- The root of a table: its last row (document 01, "Row layout").
use Rattle.std.specs.Prelude.{ℕ, zero, suc, ◌+◌, cond, ◌≡◌, List, leb, length}
use Rattle.octets.specs.Numbers.{u16}
use Rattle.rules.specs.Rules.{Starts}

-- the last row from o on, at most f rows ahead
unfoldable pub root_from : ℕ → List ℕ → ℕ → ℕ
root_from zero t o = o
root_from (suc f) t o = cond (leb (length t) (o + u16 t o)) o (root_from f t (o + u16 t o))

-- the offset of the last row
unfoldable pub root : List ℕ → ℕ
root t = root_from (length t) t 0

-- what makes an offset the last row's
pub record IsRoot (t : List ℕ) (o : ℕ) : Type 0 where
  pub starts : Starts t o
  pub last : o + u16 t o ≡ length t
