-- Octets that are there, with room for their values: reading them one by one comes to keeping all of them at once.
-- Assumes nothing.
use Prim.Native.Nat.{ℕ, zero, suc, ◌+◌, ◌-◌, ◌*◌, ◌≤◌, ◌<◌}
use mathlib.Core.Path.{◌≡◌, refl, sym, ap, ◌∙◌}
use mathlib.Core.List.{List}
use native.Mathlib.Omega.{arith}
use native.Mathlib.Nat.{zero-add}
use borrow.Author.Tests.{lt-leb}
use lib.IntN.{ℤ, pos}
use lib.ListN.{length, take, drop, set, length-drop}
use lib.Seq.{drop-drop}
use Rattle.bits.specs.Bits.{number_of, width, unpack, pack}
use Rattle.bits.specs.Access.{place_at}
use Rattle.bits.proofs.Bits.{length-unpack, number_of-take_lt}
use Rattle.item.specs.Code.{number}
use Rattle.item.specs.Answers.{item_at}
use Rattle.read_item.proofs.Outcomes.{front_inside, number_is}
use Rattle.values.specs.Values.{set_value, store_all}
use Rattle.read_runs.specs.Runs.{octet_values}
use Rattle.items.specs.Items.{Items, one, times}
use Rattle.read_steps.specs.Reads.{cursor_at, State, state_at, Continues}
use Rattle.read_steps.proofs.Flow.{continues-trans, continues_same}
use Rattle.read_steps.proofs.Keeping.{keeping, first-kept}
use Rattle.items.proofs.Runs.{run_first}
use Rattle.std.proofs.Common.{Ok}

abbrev pub octets : ℕ → Items
octets n = times n (one (number (pos 0) 255))

module _ (message : List ℕ) (room : ℕ) where
  -- the value of the octet at a place
  abbrev octet : ℕ → ℤ
  octet p = pos (number_of (take 8 (drop p (unpack message))))

  octet_is : (p : ℕ) → p + 8 ≤ 8 * length message → item_at (number (pos 0) 255) message p ≡ Ok (octet p, place_at (p + 8))
  unfolding width
  octet_is p h =
      let b = drop p (unpack message) in
      let n = number_of (take 8 b) in
      let long : 8 ≤ length b = omega (arith, length-drop p (unpack message), length-unpack message) in
      let small : n < 256 = number_of-take_lt 8 8 b (omega arith) in
      number_is (pos 0) 255 b p (front_inside b p 8 long) (omega arith) ∙ ap (λ (k : ℕ). Ok (pos k, place_at (p + 8))) (zero-add n)

  -- a state n octets further on
  abbrev further : ℕ → State → State
  further n s =
      let vs = octet_values n (drop s.cursor.place.0 (unpack message)) in
      state_at (cursor_at (s.cursor.place.0 + 8 * n) (s.cursor.count + n)) (store_all set s.values s.cursor.count vs) (store_all set_value s.packed s.cursor.count vs)

  pub continues-octets : (n left : ℕ) (s : State) → 8 * n ≤ 8 * length message - s.cursor.place.0 → n ≤ room - s.cursor.count
      → Continues message room (octets (n + left)) s (octets left) (further n s)
  unfolding pack
  continues-octets zero left s there free =
      let e : s.cursor.place.0 + 8 * 0 ≡ s.cursor.place.0 = omega arith in
      let f : s.cursor.count + 0 ≡ s.cursor.count = omega arith in
      rw (e, f) (continues_same (ap octets (zero-add left)))
  continues-octets (suc n) left s there free =
      let p = s.cursor.place.0 in
      let i = s.cursor.count in
      let v = octet p in
      let next = state_at (cursor_at (p + 8) (suc i)) (set s.values i v) (set_value s.packed i v) in
      let is = octet_is p (omega arith) in
      let g : i + 1 ≡ suc i = omega arith in
      let fits = lt-leb room i (omega arith) in
      let first : Continues message room (octets (suc n + left)) s (octets (n + left)) next =
      first-kept (number (pos 0) 255) (λ v. octets (n + left)) (run_first (number (pos 0) 255) (suc n + left) (n + left) (omega arith))
      (keeping (number (pos 0) 255) refl (sym is) (rw fits (refl, refl, refl))) (ap (λ (k : ℕ). Ok (cursor_at (p + 8) k)) g) in
      let rest : Continues message room (octets (n + left)) next (octets left) (further n next) =
      continues-octets n left next (omega arith) (omega arith) in
      let e : p + 8 + 8 * n ≡ p + 8 * suc n = omega arith in
      let f : suc i + n ≡ i + suc n = omega arith in
      continues-trans first (rw (e, f, sym (drop-drop 8 p (unpack message))) at rest)
