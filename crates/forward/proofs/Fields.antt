-- The fields of a message of four octets or more, out of its whole octets; and the message with a hop count one lower, which is not 0:
-- its fourth octet is one less.
use Prim.Native.Nat.{ℕ, zero, suc, zero-le, ◌+◌, ◌*◌, ◌-◌, ◌/◌, ◌%◌, ◌≤◌, ◌<◌}
use native.Mathlib.Nat.{le_refl, zero-add, mod-eq_of_lt}
use native.Mathlib.Omega.{arith}
use mathlib.Core.Path.{◌≡◌, refl, sym, ◌∙◌, ap, subst}
use mathlib.Core.List.{List, [], ◌∷◌, ◌++◌}
use lib.ListN.{length, get_or, take, drop, set, replicate, length-set}
use lib.Seq.{paste, length-paste, take_all, take-paste, set-append_left}
use Rattle.bits.specs.Bits.{bits_of, unpack, pack}
use Rattle.bits.proofs.Bits.{length-bits_of, pack-unpack}
use Rattle.window.specs.Window.{window_at, placed}
use Rattle.window.proofs.InWindow.{number_in_window, put_in_octet}
use Rattle.items.specs.Slices.{filled}
use Rattle.forward.specs.Forward.{subtype, version, message_id, hop_count, lowered}

-- an octet stored among octets
set-octets : (m : List ℕ) (i o : ℕ) → o < 256 → ((j : ℕ) → get_or m j 0 < 256) → (j : ℕ) → get_or (set m i o) j 0 < 256
set-octets [] i o h octets j = octets j
set-octets (x ∷ m) zero o h octets zero = h
set-octets (x ∷ m) zero o h octets (suc j) = octets (suc j)
set-octets (x ∷ m) (suc i) o h octets zero = octets zero
set-octets (x ∷ m) (suc i) o h octets (suc j) = set-octets m i o h (λ k. octets (suc k)) j

-- an octet with its lowest two bits one lower, which are not 0
octet_less : (o : ℕ) → o < 256 → 1 ≤ o % 4 → placed o 0 2 (o % 4 - 1) % 256 ≡ o - 1
octet_less o h some =
    let q : o / 4 * 4 + (o % 4 - 1) ≡ o - 1 = omega arith in
    let d : o / 1 ≡ o = omega arith in
    let r : o % 1 ≡ 0 = omega arith in
    let less : (o / 4 * 4 + (o % 4 - 1)) * 1 + 0 ≡ o - 1 = omega arith in
    let p : placed o 0 2 (o % 4 - 1) ≡ o - 1 = rw (d, r) less in
    let small : o - 1 < 256 = omega arith in
    ap (λ (x : ℕ). x % 256) p ∙ mod-eq_of_lt small

module _ (m : List ℕ) (octets : (j : ℕ) → get_or m j 0 < 256) (long : 4 ≤ length m) where
  pub version_is : version m ≡ get_or m 0 0 % 8
  unfolding version
  version_is =
      let a = octets 0 in
      let b = octets 1 in
      let c = octets 2 in
      let d = octets 3 in
      let e = octets 4 in
      let cut : window_at m 0 / 4294967296 % 8 ≡ get_or m 0 0 % 8 = omega arith in
      number_in_window m octets 5 3 (omega arith) (omega arith) ∙ cut

  pub subtype_is : subtype m ≡ get_or m 0 0 / 16
  unfolding subtype
  subtype_is =
      let a = octets 0 in
      let b = octets 1 in
      let c = octets 2 in
      let d = octets 3 in
      let e = octets 4 in
      let cut : window_at m 0 / 68719476736 % 16 ≡ get_or m 0 0 / 16 = omega arith in
      number_in_window m octets 0 4 (omega arith) (omega arith) ∙ cut

  pub hops-are : hop_count m ≡ get_or m 3 0 % 4
  unfolding hop_count
  hops-are =
      let a = octets 3 in
      let b = octets 4 in
      let c = octets 5 in
      let d = octets 6 in
      let e = octets 7 in
      let cut : window_at m 3 / 4294967296 % 4 ≡ get_or m 3 0 % 4 = omega arith in
      number_in_window m octets 30 2 (omega arith) (omega arith) ∙ cut

  pub id_is : message_id m ≡ get_or m 1 0 * 16384 + get_or m 2 0 * 64 + get_or m 3 0 / 4
  unfolding message_id
  id_is =
      let a = octets 1 in
      let b = octets 2 in
      let c = octets 3 in
      let d = octets 4 in
      let e = octets 5 in
      let cut : window_at m 1 / 262144 % 4194304 ≡ get_or m 1 0 * 16384 + get_or m 2 0 * 64 + get_or m 3 0 / 4 = omega arith in
      number_in_window m octets 8 22 (omega arith) (omega arith) ∙ cut

  pub some_hops : 1 ≤ hop_count m → 1 ≤ get_or m 3 0
  some_hops some = omega (arith, hops-are)

  module _ (some : 1 ≤ hop_count m) where
    abbrev less : ℕ
    less = get_or m 3 0 - 1

    -- the octet with the hop count's two bits replaced by those of one less
    octet_is : placed (get_or m 3 0) 0 2 (hop_count m - 1) % 256 ≡ less
    octet_is = rw hops-are (octet_less (get_or m 3 0) (octets 3) (rw (← hops-are) some))

    bits_are : unpack (set m 3 less) ≡ take 30 (unpack m) ++ (bits_of 2 (hop_count m - 1) ++ drop 32 (unpack m))
    bits_are =
        let e = hops-are in
        let put = put_in_octet m octets 3 6 2 0 (hop_count m - 1) refl long (omega arith) in
        rw (octet_is, length-bits_of 2 (hop_count m - 1)) at put

    pub lowered_is : lowered m ≡ set m 3 less
    unfolding lowered
    lowered_is =
        ap (pack (length m)) (sym bits_are)
        ∙ ap (λ (n : ℕ). pack n (unpack (set m 3 less))) (sym (length-set m 3 less))
        ∙ pack-unpack (set m 3 less) (set-octets m 3 less (omega (arith, octets 3)) octets)

    -- copied to the front of an output, with zeros behind it, and the octet stored
    module _ (out : List ℕ) (room : length m ≤ length out) where
      abbrev copied : List ℕ
      copied = paste out 0 m (length m)

      pub lowers : set (take (length m) copied ++ replicate (length copied - length m) 0) 3 less ≡ filled 0 (length out) (lowered m)
      lowers =
          let front : take (length m) copied ≡ m = subst (λ (n : ℕ). take n copied ≡ take (length m) m) (zero-add (length m)) (take-paste out 0 m (length m) zero-le (le_refl (length m))) ∙ take_all (length m) m (le_refl (length m)) in
          let same : length copied ≡ length out = length-paste out 0 m (length m) (rw (zero-add (length m)) room) (le_refl (length m)) in
          rw (front, same, lowered_is, length-set m 3 less) (set-append_left m (replicate (length out - length m) 0) 3 less long)
