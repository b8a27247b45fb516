-- Values put as octets one after another, from whichever list they come.
-- Assumes nothing.
use Prim.Native.Nat.{ℕ, zero, suc, ◌+◌, ◌-◌, ◌*◌, ◌≤◌, ◌<◌}
use mathlib.Core.Bool.{Bool, true, false}
use borrow.Author.Tests.{lt-ltb, le-ltb}
use Rattle.std.specs.Int.{FitsUnsignedBits}
use mathlib.Core.Path.{◌≡◌, refl, sym, ap, ◌∙◌}
use mathlib.Core.List.{List, ◌++◌, append-nil, append_assoc}
use native.Mathlib.Omega.{arith}
use native.Mathlib.Decide.{dec_lt}
use lib.IntN.{ℤ, pos, negsuc, nat_abs}
use lib.ListN.{length, get_or, length-append, get_or-append}
use Rattle.bits.specs.Bits.{bits_of, unpack}
use Rattle.bits.specs.Access.{overwritten}
use Rattle.bits.proofs.Access.{overwritten-overwritten, overwritten_none}
use Rattle.bits.proofs.Bits.{length-bits_of, length-unpack}
use Rattle.write_runs.specs.Runs.{is_octet, octet_bits, Puts}

-- what a conversion to an octet finds
pub octet-fits : (v : ℤ) → FitsUnsignedBits 8 v → is_octet v ≡ true
octet-fits (pos n) h = lt-ltb n 256 h
octet-fits (negsuc n) h = absurd h

pub octet-not : (v : ℤ) → (FitsUnsignedBits 8 v → ⊥) → is_octet v ≡ false
octet-not (pos n) h = le-ltb n 256 (elim (dec_lt n 256) [ yes l ↦ absurd (h l) | no l ↦ omega arith ])
octet-not (negsuc n) h = refl

pub length-octet_bits : (n : ℕ) (list : List ℤ) (i : ℕ) → length (octet_bits n list i) ≡ 8 * n
unfolding octet_bits
length-octet_bits zero list i = refl
length-octet_bits (suc n) list i =
    length-append (bits_of 8 (nat_abs (get_or list i (pos 0)))) (octet_bits n list (suc i))
    ∙ omega (arith, length-bits_of 8 (nat_abs (get_or list i (pos 0))), length-octet_bits n list (suc i))

octet_bits_more : (n : ℕ) (list : List ℤ) (i : ℕ) → octet_bits (n + 1) list i ≡ octet_bits n list i ++ bits_of 8 (nat_abs (get_or list (i + n) (pos 0)))
unfolding octet_bits
octet_bits_more zero list i =
    let e : i + 0 ≡ i = omega arith in
    rw e (append-nil (bits_of 8 (nat_abs (get_or list i (pos 0)))))
octet_bits_more (suc n) list i =
    let e : suc n + 1 ≡ suc (n + 1) = omega arith in
    let f : suc i + n ≡ i + suc n = omega arith in
    let o = bits_of 8 (nat_abs (get_or list i (pos 0))) in
    rw (e, ← f) (ap (o ++◌) (octet_bits_more n list (suc i)) ∙ sym (append_assoc o (octet_bits n list (suc i)) (bits_of 8 (nat_abs (get_or list (suc i + n) (pos 0))))))

module _ (list : List ℤ) (index : ℕ) (old : List ℕ) (place : ℕ) where
  -- none yet
  pub puts_none : Puts list index 0 old place old
  unfolding octet_bits
  puts_none = record { octets = λ i h. absurd (omega arith); output = sym (overwritten_none (unpack old) place) }

  -- one more
  pub puts_one : (new new' : List ℕ) (done at : ℕ) (v : ℤ) → Puts list index done old place new → get_or list (index + done) (pos 0) ≡ v → is_octet v ≡ true
      → at ≡ place + 8 * done → at + 8 ≤ 8 * length old → unpack new' ≡ overwritten (unpack new) at (bits_of 8 (nat_abs v)) → Puts list index (done + 1) old place new'
  puts_one new new' done at v h e o p fits u = record { octets = octets; output = output }
    where
      octets : (i : ℕ) → i < done + 1 → is_octet (get_or list (index + i) (pos 0)) ≡ true
      octets i l = elim (dec_lt i done) [ yes q ↦ h.octets i q | no q ↦ (let s : i ≡ done = omega arith in rw (s, e) o) ]

      before : List Bool
      before = octet_bits done list index

      more : List Bool
      more = bits_of 8 (nat_abs v)

      output : unpack new' ≡ overwritten (unpack old) place (octet_bits (done + 1) list index)
      output =
          let n : at ≡ place + length before = omega (arith, length-octet_bits done list index) in
          let all : place + length (before ++ more) ≤ length (unpack old) =
          rw (length-append, length-octet_bits, length-bits_of, length-unpack) (omega arith) in
          u ∙ ap (λ b. overwritten b at more) h.output ∙ ap (λ (k : ℕ). overwritten (overwritten (unpack old) place before) k more) n
          ∙ overwritten-overwritten (unpack old) place before more all
          ∙ ap (overwritten (unpack old) place) (ap (λ w. before ++ bits_of 8 (nat_abs w)) (sym e) ∙ sym (octet_bits_more done list index))

-- values that a longer list begins with
module _ (list more : List ℤ) where
  octet_bits-front : (n index : ℕ) → n ≤ length list - index → octet_bits n list index ≡ octet_bits n (list ++ more) index
  unfolding octet_bits
  octet_bits-front zero index h = refl
  octet_bits-front (suc n) index h =
      rw (get_or-append list more (pos 0) index (omega arith)) (ap (bits_of 8 (nat_abs (get_or list index (pos 0))) ++◌) (octet_bits-front n (suc index) (omega arith)))

  pub puts-front : (n index : ℕ) (old : List ℕ) (place : ℕ) (new : List ℕ) → n ≤ length list - index → Puts list index n old place new → Puts (list ++ more) index n old place new
  puts-front n index old place new h p = record {
    octets = λ i l. rw (get_or-append list more (pos 0) (index + i) (omega arith)) (p.octets i l);
    output = p.output ∙ ap (overwritten (unpack old) place) (octet_bits-front n index h);
  }
