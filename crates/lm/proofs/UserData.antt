-- The user data of an LM starts on an octet, and the message ends with it.
-- Assumes nothing.
use Prim.Native.Nat.{ℕ, zero, suc, ◌+◌, ◌-◌, ◌*◌, ◌%◌, ◌≤◌, ◌<◌}
use mathlib.Core.Bool.{Bool, true, false, cond}
use mathlib.Core.Path.{◌≡◌, refl, sym, ap, ◌∙◌}
use mathlib.Core.List.{List, [], ◌∷◌, ◌++◌, map, append_assoc, append-nil}
use native.Mathlib.Omega.{arith}
use lib.Dec.{leb, ltb}
use lib.IntN.{ℤ}
use lib.ListN.{length, get_or, drop, length-append}
use lib.Seq.{drop_at, get_or-drop}
use Rattle.bits.specs.Bits.{bits_of, unpack}
use Rattle.bits.proofs.Bits.{length-bits_of, length-unpack, length-pack, unpack-pack, unpack-injective, unpack-drop, pack-octets}
use Rattle.items.specs.Items.{Items, Allows, encoding_bits}
use Rattle.encoding.specs.Rows.{items}
use Rattle.builtin.specs.Tables.{lm}
use Rattle.items.specs.Encoding.{size, padding, padded}
use Rattle.lm.specs.Clause5.{in_order, length_bits, address_bits, Element, element_bits, Extensions, absent, present, extensions_bits, OriginalHeader, original_null, original_nhop, original_header_bits, NHeader, null_networking, internal_forwarding, n_hop_forwarding, n_header_bits, THeader, dissemination, session, t_header_bits, NullNetworking, null_networking_bits, NHopForwarding, n_hop_forwarding_bits, Octets, Lm, layout_bits}
use Rattle.lm.proofs.Spelling.{Spells}
use Rattle.lm.proofs.Rows.{transport}
use Rattle.lm.specs.UserData.{bits_before, user_data_start, UserDataPlace}

-- ── parts of whole octets ──

length_whole : (n : ℕ) → length (length_bits n) % 8 ≡ 0
unfolding length_bits
length_whole n = go (leb n 127)
  where
    go : (t : Bool) → length (cond t (false ∷ bits_of 7 n) (true ∷ false ∷ bits_of 14 n)) % 8 ≡ 0
    go true = rw (length-bits_of 7 n)
    go false = rw (length-bits_of 14 n)

address_whole : (n : ℕ) → length (address_bits n) % 8 ≡ 0
unfolding address_bits
address_whole n = go (ltb n 128) (ltb n 16512) (ltb n 2113664)
  where
    go : (t u w : Bool)
        → length (cond t (false ∷ bits_of 7 n) (cond u (true ∷ false ∷ bits_of 14 (n - 128)) (cond w (true ∷ true ∷ false ∷ bits_of 21 (n - 16512)) (true ∷ true ∷ true ∷ false ∷ bits_of 28 (n - 2113664))))) % 8 ≡ 0
    go true u w = rw (length-bits_of 7 n)
    go false true w = rw (length-bits_of 14 (n - 128))
    go false false true = rw (length-bits_of 21 (n - 16512))
    go false false false = rw (length-bits_of 28 (n - 2113664))

elements_whole : (es : List Element) → length (in_order (map element_bits es)) % 8 ≡ 0
elements_whole [] = refl
elements_whole (e ∷ es) = simp (length-append, length-bits_of, length-unpack) (omega (arith, length_whole (length e.contents), elements_whole es))

extensions_whole : (x : Extensions) → length (extensions_bits x) % 8 ≡ 0
extensions_whole absent = refl
extensions_whole (present es) = simp length-append (omega (arith, length_whole (length es), elements_whole es))

null_whole : (h : NullNetworking) → length (null_networking_bits h) % 8 ≡ 0
null_whole h = simp (length-append, length-bits_of) (omega (arith, extensions_whole h.extensions))

n-hop_whole : (h : NHopForwarding) → length (n_hop_forwarding_bits h) % 8 ≡ 0
n-hop_whole h = simp (length-append, length-bits_of) (omega (arith, extensions_whole h.extensions))

original_whole : (h : OriginalHeader) → length (original_header_bits h) % 8 ≡ 0
original_whole (original_null h) = null_whole h
original_whole (original_nhop h) = n-hop_whole h

network_whole : (h : NHeader) → length (n_header_bits h) % 8 ≡ 0
network_whole (null_networking h) = null_whole h
network_whole (internal_forwarding h) = simp (length-append, length-bits_of, length-unpack) (omega (arith, extensions_whole h.extensions, original_whole h.original))
network_whole (n_hop_forwarding h) = n-hop_whole h

transport_whole : (h : THeader) → length (t_header_bits h) % 8 ≡ 0
transport_whole (dissemination h) = simp (length-append, length-bits_of) (omega (arith, address_whole h.destination, extensions_whole h.extensions))
transport_whole (session h) = simp (length-append, length-bits_of) (omega (arith, extensions_whole h.extensions))

-- and so are the bits of whatever the rows of the two headers allow
module _ {p : Items} {A : Type 0} {F : A → Type 0} {v : A → List ℤ} {b : A → List Bool} (spells : Spells p F v b) (whole : (a : A) → length (b a) % 8 ≡ 0) where
  spelt_whole : (vs : List ℤ) → Allows p vs → length (encoding_bits p vs) % 8 ≡ 0
  spelt_whole vs h =
      let x = spells.only vs h in
      rw (← x.2, spells.laid x.0 x.1) (whole x.0)

pub transport-row_whole : (vs : List ℤ) → Allows (items lm 278) vs → length (encoding_bits (items lm 278) vs) % 8 ≡ 0
transport-row_whole = spelt_whole transport transport_whole

-- ── the octets ──

length-least : (n : ℕ) → 1 ≤ length (length_bits n)
unfolding length_bits
length-least n = go (leb n 127)
  where
    go : (t : Bool) → 1 ≤ length (cond t (false ∷ bits_of 7 n) (true ∷ false ∷ bits_of 14 n))
    go true = omega arith
    go false = omega arith

octets_below : (os : List ℕ) → Octets os → (i : ℕ) → get_or os i 0 < 256
octets_below [] h i = omega arith
octets_below (o ∷ os) h zero = omega (arith, h.0)
octets_below (o ∷ os) h (suc i) = octets_below os h.1 i

module _ (l : Lm) where
  before_whole : (length (bits_before l) % 8 ≡ 0) × (1 ≤ length (bits_before l))
  unfolding bits_before
  before_whole =
      simp (length-append) (
        omega (arith, network_whole l.network, transport_whole l.transport, length_whole (length l.user_data)),
        omega (arith, length-least (length l.user_data)),
      )

  starts : 8 * user_data_start l ≡ length (bits_before l)
  unfolding user_data_start
  starts = omega (arith, before_whole.0)

  layout-parts : layout_bits l ≡ bits_before l ++ unpack l.user_data
  unfolding layout_bits bits_before
  layout-parts = simp (append_assoc, append-nil)

  layout-length : length (layout_bits l) ≡ 8 * (user_data_start l + length l.user_data)
  layout-length = rw (layout-parts, length-append, length-unpack) (omega (arith, starts))

  size_is : size (length (layout_bits l)) ≡ user_data_start l + length l.user_data
  size_is = omega (arith, layout-length, starts, before_whole.1)

  no_padding : padding (length (layout_bits l)) ≡ []
  no_padding = let z : 8 * size (length (layout_bits l)) - length (layout_bits l) ≡ 0 = omega (arith, layout-length, size_is) in rw z

  octet-bits : unpack (padded (layout_bits l)) ≡ bits_before l ++ unpack l.user_data
  octet-bits =
      let b = layout_bits l in
      let e : b ++ padding (length b) ≡ b = ap (b ++◌) no_padding ∙ append-nil b in
      let z : length (b ++ padding (length b)) ≡ 8 * size (length b) = ap length e ∙ layout-length ∙ ap (8 *◌) (sym size_is) in
      unpack-pack (size (length b)) (b ++ padding (length b)) z ∙ e ∙ layout-parts

  octet-count : length (padded (layout_bits l)) ≡ user_data_start l + length l.user_data
  octet-count = length-pack _ _ ∙ size_is

  behind : Octets l.user_data → drop (user_data_start l) (padded (layout_bits l)) ≡ l.user_data
  behind h =
      let s = padded (layout_bits l) in
      let e : unpack (drop (user_data_start l) s) ≡ unpack l.user_data =
      unpack-drop (user_data_start l) s (omega (arith, octet-count)) ∙ ap (drop (8 * user_data_start l)) octet-bits
      ∙ drop_at (bits_before l) (unpack l.user_data) (8 * user_data_start l) (sym starts) in
      unpack-injective (drop (user_data_start l) s) l.user_data (λ i. rw get_or-drop (pack-octets _ _ (user_data_start l + i))) (octets_below l.user_data h) e

pub user-data-place : UserDataPlace
user-data-place = record {
  whole = starts;
  rest = λ s l h. ap (drop (user_data_start l)) (sym h.octets) ∙ behind l h.well_formed.user_data;
  unpadded = λ s l h. ap (λ s. 8 * length s) (sym h.octets) ∙ ap (8 *◌) (octet-count l) ∙ sym (layout-length l);
}
