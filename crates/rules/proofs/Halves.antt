-- The depths at half the offsets: what stands at an offset, and that every row starts at an even one.
-- Assumes nothing.
use Prim.Native.Nat.{ℕ, zero, suc, ◌*◌, ◌/◌, ◌%◌}
use mathlib.Core.Path.{◌≡◌, refl, ap}
use mathlib.Core.List.{List, [], ◌∷◌}
use native.Mathlib.Omega.{arith}
use lib.ListN.{get_or, set, replicate}
use Rattle.row.specs.Rows.{Row, Number, Variable, FixedRun, CountedRun, Record, Choice, Octets, Unknown, row_length}
use Rattle.rules.specs.Steps.{spread}

-- every length is even, so each row that follows one at an even offset starts at an even one
pub length-even : (r : Row) → row_length r % 2 ≡ 0
unfolding row_length
length-even (Number low span) = refl
length-even Variable = refl
length-even (FixedRun count r) = refl
length-even (CountedRun most r) = refl
length-even (Record rs fs) = omega arith
length-even (Choice rs) = omega arith
length-even (Octets least most) = refl
length-even Unknown = refl

half_on : (n : ℕ) → suc (suc n) / 2 ≡ suc (n / 2)
half_on n = omega arith

pub spread-even : (h : List ℕ) (n : ℕ) → n % 2 ≡ 0 → get_or (spread h) n 0 ≡ get_or h (n / 2) 0
unfolding spread
spread-even [] n e = refl
spread-even (x ∷ h) zero e = refl
spread-even (x ∷ h) (suc zero) e = absurd (omega arith)
spread-even (x ∷ h) (suc (suc n)) e = rw (half_on n) (spread-even h n (omega arith))

-- nothing stands at an odd offset
pub spread-odd : (h : List ℕ) (n : ℕ) → n % 2 ≡ 1 → get_or (spread h) n 0 ≡ 0
unfolding spread
spread-odd [] n e = refl
spread-odd (x ∷ h) zero e = absurd (omega arith)
spread-odd (x ∷ h) (suc zero) e = refl
spread-odd (x ∷ h) (suc (suc n)) e = spread-odd h n (omega arith)

pub spread-set : (h : List ℕ) (n x : ℕ) → n % 2 ≡ 0 → spread (set h (n / 2) x) ≡ set (spread h) n x
unfolding spread
spread-set [] n x e = refl
spread-set (y ∷ h) zero x e = refl
spread-set (y ∷ h) (suc zero) x e = absurd (omega arith)
spread-set (y ∷ h) (suc (suc n)) x e = rw (half_on n) (ap (λ d. y ∷ 0 ∷ d) (spread-set h n x (omega arith)))

pub spread-zeros : (n : ℕ) → spread (replicate n 0) ≡ replicate (2 * n) 0
unfolding spread
spread-zeros zero = refl
spread-zeros (suc n) = let e : 2 * suc n ≡ suc (suc (2 * n)) = omega arith in rw e (ap (λ d. 0 ∷ 0 ∷ d) (spread-zeros n))
