-- `write_runs::write` meets its contract. The values come from the first slice, or from the octets where that is empty.
use Prim.Native.Nat.{ℕ, ◌+◌, ◌-◌, ◌*◌, ◌/◌, ◌%◌, ◌≤◌, ◌<◌, min}
use mathlib.Core.Path.{◌≡◌, refl, sym, ap, ◌∙◌, subst}
use mathlib.Core.List.{List, [], ◌∷◌, ◌++◌}
use native.Mathlib.Omega.{arith}
use native.Mathlib.Nat.{le_trans, le_of_eq}
use lib.IntN.{ℤ, pos}
use lib.ListN.{length, length-append, get_or-append}
use Rattle.values.specs.Values.{values_in}
use Rattle.values.proofs.Stores.{length-values_in}
use Rattle.write_runs.specs.Runs.{is_octet, reach, most_of}
use Rattle.write_runs.proofs.Putting.{puts-front}
use borrow.Author.Rules.{rules}
use Rattle.std.proofs.lemmas.Bool.Decides.{nat_tests}
use Rattle.write_runs.proofs.write.Goals as goal

-- what the run is held to: the most that there can be

module _ (count n index len place end there room listed : ℕ) (e : end ≡ len * 8) (t : there ≡ (end - place) / 8) (r : room ≡ min count (there - 0))
    (l : listed ≡ min room (n - index)) where
  is-most : listed ≡ most_of count n index len place
  is-most =
      let a : end ≡ 8 * len = omega (arith, e) in
      let b : there - 0 ≡ (8 * len - place) / 8 = omega (arith, t, a) in
      l ∙ ap (λ (k : ℕ). min k (n - index)) (r ∙ ap (min count) b)

  to-list : listed ≤ n - index
  to-list = omega arith

  in-octets : (at into : ℕ) → at ≡ place / 8 → into ≡ place % 8 → 8 * listed ≤ 8 * len - (8 * at + into)
  in-octets at into a i =
      let p : 8 * at + into ≡ place = omega (arith, a, i) in
      let b : listed ≤ there = omega arith in
      rw p (omega (arith, t, e))

empty : (l : List ℤ) → length l ≡ 0 → (m : List ℤ) → m ≡ l ++ m
empty [] e m = refl
empty (x ∷ l) e m = absurd (omega (arith, e))

reach-octets : (l : List ℤ) (packed : List ℕ) → length l ≡ 0 → reach l packed ≡ length packed / 8
reach-octets [] packed e = refl
reach-octets (x ∷ l) packed e = absurd (omega (arith, e))

reach-numbers : (l : List ℤ) (packed : List ℕ) → 0 < length l → reach l packed ≡ length l
reach-numbers [] packed h = absurd (omega (arith, h))
reach-numbers (x ∷ l) packed h = refl

pub returns-then-is_empty : goal.returns-then-is_empty
returns-then-is_empty c =
    let a = c.args in
    let v = a.values.now in
    let ps = values_in a.packed.now in
    let o = length a.output.now in
    let p = a.place.0 in
    let at : 8 * c.octets_before-first.result.0 + c.bits_into_octet-into.result ≡ p = omega (arith, c.octets_before-first.ensures, c.bits_into_octet-into.ensures) in
    let most = is-most a.count (length a.packed.now / 8) a.index o p c.after-end.result.0 c.between-there.result.0 c.fitting-room.result c.fitting-listed.result c.after-end.ensures c.between-there.ensures c.fitting-room.ensures c.fitting-listed.ensures in
    let listed = to-list a.count (length a.packed.now / 8) a.index o p c.after-end.result.0 c.between-there.result.0 c.fitting-room.result c.fitting-listed.result c.after-end.ensures c.between-there.ensures c.fitting-room.ensures c.fitting-listed.ensures in
    let less : c.write_packed.result ≤ c.fitting-listed.result = c.write_packed.ensures.0 in
    let puts = rw at at c.write_packed.ensures.2 in
    let none : length v ≡ 0 = grind (arith, nat_tests, c.if-is_empty.ensures) in
    rw (← empty v none ps, reach-octets v a.packed.now none)
    (record { most = le_trans less (le_of_eq most); listed = omega (arith, less, listed, length-values_in a.packed.now); stops = λ h. c.write_packed.ensures.1 (subst (λ (k : ℕ). c.write_packed.result < k) (sym most) h); puts = puts })

pub write_numbers-requires : goal.write_numbers-requires
write_numbers-requires c =
    let a = c.args in
    let v = length a.values.now in
    let o = length a.output.now in
    let p = a.place.0 in (
      search rules,
      to-list a.count v a.index o p c.after-end.result.0 c.between-there.result.0 c.fitting-room.result c.fitting-listed-2.result c.after-end.ensures c.between-there.ensures c.fitting-room.ensures c.fitting-listed-2.ensures,
      in-octets a.count v a.index o p c.after-end.result.0 c.between-there.result.0 c.fitting-room.result c.fitting-listed-2.result c.after-end.ensures c.between-there.ensures c.fitting-room.ensures c.fitting-listed-2.ensures
          c.octets_before-first.result.0 c.bits_into_octet-into.result c.octets_before-first.ensures c.bits_into_octet-into.ensures,
    )

pub returns : goal.returns
returns c =
    let a = c.args in
    let v = a.values.now in
    let ps = values_in a.packed.now in
    let o = length a.output.now in
    let p = a.place.0 in
    let at : 8 * c.octets_before-first.result.0 + c.bits_into_octet-into.result ≡ p = omega (arith, c.octets_before-first.ensures, c.bits_into_octet-into.ensures) in
    let most = is-most a.count (length v) a.index o p c.after-end.result.0 c.between-there.result.0 c.fitting-room.result c.fitting-listed-2.result c.after-end.ensures c.between-there.ensures c.fitting-room.ensures c.fitting-listed-2.ensures in
    let listed = to-list a.count (length v) a.index o p c.after-end.result.0 c.between-there.result.0 c.fitting-room.result c.fitting-listed-2.result c.after-end.ensures c.between-there.ensures c.fitting-room.ensures c.fitting-listed-2.ensures in
    let less : c.write_numbers.result ≤ c.fitting-listed-2.result = c.write_numbers.ensures.0 in
    let puts = rw at at c.write_numbers.ensures.2 in
    let some : 0 < length v = grind (arith, nat_tests, c.if-is_empty.ensures) in
    rw (reach-numbers v a.packed.now some)
    (record {
      most = le_trans less (le_of_eq most);
      listed = rw (length-append v ps) (omega (arith, less, listed));
      stops = λ h.
          let k : c.write_numbers.result < c.fitting-listed-2.result = subst (λ (k : ℕ). c.write_numbers.result < k) (sym most) h in
          ap is_octet (get_or-append v ps (pos 0) (a.index + c.write_numbers.result) (omega (arith, k, listed))) ∙ c.write_numbers.ensures.1 k;
      puts = puts-front v ps c.write_numbers.result a.index a.output.now p _ (le_trans less listed) puts;
    })
