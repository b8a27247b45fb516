-- Octets of a list replaced by as many others, any number of them: the bits that change, and the whole of one octet.
use Prim.Native.Nat.{ℕ, ◌+◌, ◌*◌, ◌≤◌, ◌<◌}
use mathlib.Core.Bool.{Bool}
use mathlib.Core.Path.{◌≡◌, refl, sym, ap, ◌∙◌}
use mathlib.Core.List.{List, [], ◌∷◌, ◌++◌}
use native.Mathlib.Omega.{arith}
use native.Mathlib.Nat.{add-zero}
use lib.ListN.{length, get_or, take, drop, set, length-append, drop_of_length-le}
use lib.Seq.{sets, sets-eq, set-get_or, length-take-le}
use Rattle.bits.specs.Bits.{bits_of, unpack}
use Rattle.bits.specs.Access.{overwritten}
use Rattle.bits.proofs.Bits.{length-bits_of, length-unpack, unpack-append}
use Rattle.bits.proofs.Splice.{spliced, spliced-append, append-spliced}
use Rattle.bits.proofs.Access.{overwritten_inside}

module _ (m : List ℕ) (i : ℕ) where
  -- the bits before the octets, theirs, and those behind
  pub unpack-sets : (new : List ℕ) → i + length new ≤ length m
      → unpack (sets m i new) ≡ unpack (take i m) ++ unpack new ++ unpack (drop (i + length new) m)
  unpack-sets new inside =
      ap unpack (sets-eq new m i inside)
      ∙ unpack-append (take i m ++ new) (drop (i + length new) m)
      ∙ ap (λ b. b ++ unpack (drop (i + length new) m)) (unpack-append (take i m) new)

  -- octets whose bits are those of the old ones with x from s on
  pub sets-spliced : (old new : List ℕ) (s : ℕ) (x : List Bool) → sets m i old ≡ m → length old ≡ length new
      → i + length new ≤ length m → s + length x ≤ 8 * length new → unpack new ≡ spliced (unpack old) s x
      → unpack (sets m i new) ≡ spliced (unpack m) (8 * i + s) x
  sets-spliced old new s x back same inside fits bits =
      let front = unpack (take i m) in
      let rest = unpack (drop (i + length new) m) in
      let l : length front ≡ 8 * i = rw (length-unpack, length-take-le i m (omega arith)) in
      let was : unpack m ≡ front ++ unpack old ++ rest =
      ap unpack (sym back) ∙ unpack-sets old (omega arith) ∙ ap (λ (n : ℕ). front ++ unpack old ++ unpack (drop (i + n) m)) same in
      let enough : 8 * i + s + length x ≤ length (front ++ unpack old) = rw (length-append, l, length-unpack old) (omega arith) in
      unpack-sets new inside
      ∙ ap (λ b. front ++ b ++ rest) bits
      ∙ ap (λ b. b ++ rest) (sym (rw l at (append-spliced front (unpack old) s x)))
      ∙ sym (spliced-append (front ++ unpack old) (8 * i + s) x enough rest)
      ∙ ap (λ b. spliced b (8 * i + s) x) (sym was)

  -- one octet is eight bits
  pub set-octet : i < length m → (o : ℕ) → unpack (set m i o) ≡ overwritten (unpack m) (8 * i) (bits_of 8 o)
  unfolding unpack
  set-octet inside o =
      let old = bits_of 8 (get_or m i 0) ++ [] in
      let short : length old ≤ 0 + length (bits_of 8 o) = rw (length-append, length-bits_of, length-bits_of) (omega arith) in
      (rw add-zero at
      (sets-spliced (get_or m i 0 ∷ []) (o ∷ []) 0 (bits_of 8 o) (set-get_or m i 0) refl (omega arith) (rw length-bits_of (omega arith))
      (ap (bits_of 8 o ++◌) (sym (drop_of_length-le old short)))))
      ∙ sym (overwritten_inside (unpack m) (8 * i) (bits_of 8 o) (rw (length-unpack, length-bits_of) (omega arith)))
