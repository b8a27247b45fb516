-- Laws of texts put one after another into a slice.
use Prim.Native.Nat.{ℕ, suc, ◌<◌}
use mathlib.Core.Path.{◌≡◌, refl, sym, ap, ◌∙◌}
use mathlib.Core.List.{List, [], ◌∷◌, ◌++◌, append_assoc, append-nil}
use native.Mathlib.Nat.{add-zero}
use native.Mathlib.Omega.{arith}
use lib.ListN.{length, take, set, length-append}
use lib.Seq.{take-suc-set}
use lib.IntN.{ℤ}
use Rattle.lines.specs.Text.{Appended, signed, listed}

-- no text
pub put-nothing : (out : List ℕ) (at : ℕ) → Appended out at [] out at
put-nothing out at = record { counted = sym (add-zero at); told = sym (append-nil (take at out)) }

-- two texts are one
pub put_both : {first second third : List ℕ} {at next end : ℕ} {s t : List ℕ}
    → Appended first at s second next → Appended second next t third end → Appended first at (s ++ t) third end
put_both {first} {second} {third} {at} {next} {end} {s} {t} p q =
    record {
      counted = omega (arith, p.counted, q.counted, length-append s t);
      told = q.told ∙ ap (λ (x : List ℕ). x ++ t) p.told ∙ append_assoc (take at first) s t;
    }

-- one octet more
pub put-octet : (out : List ℕ) (at octet : ℕ) → at < length out → Appended out at (octet ∷ []) (set out at octet) (suc at)
put-octet out at octet h = record { counted = omega arith; told = take-suc-set out at octet h }

-- ---- values in order

pub listed-append : (us vs : List ℤ) → listed (us ++ vs) ≡ listed us ++ listed vs
unfolding listed
listed-append [] vs = refl
listed-append (u ∷ us) vs =
    ap (λ (x : List ℕ). 32 ∷ (signed u ++ x)) (listed-append us vs) ∙ ap (λ (x : List ℕ). 32 ∷ x) (sym (append_assoc (signed u) (listed us) (listed vs)))

-- one value more
pub listed_more : (vs : List ℤ) (v : ℤ) → listed (vs ++ (v ∷ [])) ≡ listed vs ++ (32 ∷ signed v)
unfolding listed
listed_more vs v = rw (listed-append vs (v ∷ []), append-nil (signed v))
