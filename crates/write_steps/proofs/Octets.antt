-- Octets that were put at once: writing a run of them one by one comes to writing what is left of it.
-- Assumes nothing.
use Prim.Native.Nat.{ℕ, zero, suc, ◌+◌, ◌-◌, ◌*◌, ◌≤◌, ◌<◌}
use mathlib.Core.Bool.{true}
use mathlib.Core.Path.{◌≡◌, refl, sym, ap, ◌∙◌, fun_ext}
use mathlib.Core.List.{List}
use native.Mathlib.Omega.{arith}
use native.Mathlib.Nat.{zero-add, add-zero}
use borrow.Author.Tests.{ltb-true, le-leb}
use lib.IntN.{ℤ, pos, negsuc, nat_abs}
use lib.ListN.{length, get_or}
use Rattle.bits.specs.Bits.{width, bits_of}
use Rattle.bits.proofs.Bits.{length-bits_of}
use Rattle.item.specs.Code.{Code, number, allows, value_bits}
use Rattle.write_runs.specs.Runs.{is_octet, octet_bits, Written}
use Rattle.write_runs.proofs.Putting.{length-octet_bits}
use Rattle.items.specs.Items.{Items, ask, ◌then◌, one, times}
use Rattle.items.specs.Spell.{spelled, spell}
use Rattle.items.proofs.Spells.{spell-stop, spell-put}
use Rattle.items.proofs.Runs.{run_first}
use Rattle.write_steps.specs.Writes.{cursor_at, State, state_at, Writes, Continues}
use Rattle.write_steps.proofs.Flow.{continues-trans, continues_same, continues_part}
use Rattle.std.proofs.Common.{Ok}

abbrev octet : Code
octet = number (pos 0) 255

abbrev pub octets : ℕ → Items
octets n = times n (one octet)

-- a run in two parts
octets-append : (n left : ℕ) → octets (n + left) ≡ octets n then octets left
unfolding times one
octets-append zero left = ap octets (zero-add left)
octets-append (suc n) left =
    run_first octet (suc n + left) (n + left) (omega arith) ∙ ap (ask octet) (fun_ext (λ v. octets-append n left))

-- a value that is an octet is allowed, and is its eight bits
octet-allowed : (v : ℤ) → is_octet v ≡ true → allows octet v ≡ true
octet-allowed (pos n) h = rw (add-zero n) (le-leb n 255 (omega (arith, ltb-true n 256 h)))
octet-allowed (negsuc n) h = let z : ◌≡◌ {A = ℕ} 0 1 = cc in absurd (omega arith)

octet-bits : (v : ℤ) → is_octet v ≡ true → value_bits octet v ≡ bits_of 8 (nat_abs v)
unfolding width
octet-bits (pos n) h = ap (bits_of 8) (add-zero n)
octet-bits (negsuc n) h = let z : ◌≡◌ {A = ℕ} 0 1 = cc in absurd (omega arith)

module _ (list : List ℤ) where
  spell-octets : (n room i : ℕ) → 8 * n ≤ room → n ≤ length list - i → ((j : ℕ) → j < n → is_octet (get_or list (i + j) (pos 0)) ≡ true)
      → spell (octets n) list room i ≡ spelled (octet_bits n list i) (i + n)
  unfolding times one octet_bits
  spell-octets zero room i r l o = let e : i + 0 ≡ i = omega arith in rw e (spell-stop list room i)
  spell-octets (suc n) room i r l o =
      let v = get_or list i (pos 0) in
      let e : i + 0 ≡ i = omega arith in
      let is : is_octet v ≡ true = rw e at (o 0 (omega arith)) in
      let b = octet-bits v is in
      let k : length (value_bits octet v) ≡ 8 = ap length b ∙ length-bits_of 8 (nat_abs v) in
      let f : suc i + n ≡ i + suc n = omega arith in
      let rest = spell-octets n (room - 8) (suc i) (omega arith) (omega arith)
      (λ j h. let g : i + suc j ≡ suc i + j = omega arith in rw g at (o (suc j) (omega arith))) in
      spell-put octet (λ w. octets n) list room i v (omega arith) refl (octet-allowed v is) (le-leb (length (value_bits octet v)) room (omega arith))
      ∙ (rw (b, length-bits_of 8 (nat_abs v), rest, f) refl)

  -- what was put at once was written
  pub continues-octets : (n count : ℕ) {within : ℕ} (s : State) (output : List ℕ)
      → Written list within s.cursor.index count s.output s.cursor.place.0 n output
      → Continues list (octets count) s (octets (count - n)) (state_at (cursor_at (s.cursor.place.0 + 8 * n) (s.cursor.index + n)) output)
  continues-octets n count {within} s output w =
      let i = s.cursor.index in
      let p = s.cursor.place.0 in
      let most = w.most in
      let all : count ≡ n + (count - n) = omega arith in
      let e = spell-octets n (8 * length s.output - p) i (omega arith) w.listed w.puts.octets in
      let first : Writes list (octets n) s output (Ok (cursor_at (p + 8 * n) (i + n))) =
      record { agrees = λ h. rw e (record { answer = ap (λ (k : ℕ). Ok (cursor_at (p + k) (i + n))) (sym (length-octet_bits n list i)); output = w.puts.output }) } in
      continues-trans (continues_same (ap octets all ∙ octets-append n (count - n))) (continues_part (octets n) (octets (count - n)) first refl)
