-- An N-hop LM that is forwarded: its bits are thirty in front, the two of the hop count, and those behind; so lowering the count gives the
-- bits of the LM with one less, and reading by name goes on from there.
use Prim.Native.Nat.{ℕ, ◌+◌, ◌-◌, ◌≤◌, ◌<◌, ◌^◌}
use native.Mathlib.Omega.{arith}
use mathlib.Core.Bool.{Bool}
use mathlib.Core.Path.{◌≡◌, refl, sym, ◌∙◌, ap, subst}
use mathlib.Core.List.{List, [], ◌∷◌, ◌++◌, append_assoc}
use lib.IntN.{ℤ, pos}
use lib.ListN.{length, take, drop, set, length-append, length-set}
use lib.Seq.{take_at, drop_at}
use Rattle.bits.specs.Bits.{bits_of, unpack}
use Rattle.bits.proofs.Bits.{length-bits_of, length-pack, number_of-bits_of}
use Rattle.items.specs.Encoding.{size, padding, padded}
use Rattle.items.specs.Reading.{accept}
use Rattle.encoding.specs.Demand3.{Message}
use Rattle.lm.specs.Clause5.{Lm, NHopForwarding, NHeader, null_networking, internal_forwarding, n_hop_forwarding, THeader, flag, extensions_bits, t_header_bits, length_bits, layout_bits, values_of}
use Rattle.lm.specs.Demand2.{LaidOut}
use Rattle.lm.specs.ByName.{lm_version, lm_subtype, read_lm_outcome}
use Rattle.lm.proofs.Demand3Lm.{unpack-padded}
use Rattle.lm.proofs.Demand2.{demand2-lm}
use Rattle.forward.specs.Forward.{field, version, subtype, message_id, hop_count, lowered}
use Rattle.forwarded.specs.OfLm.{n_hop_lm, one_less, OfLm}
use Rattle.forwarded.proofs.Steps.{lowered-size, lowered-octets}

-- a field whose bits are known
field_is : (m : List ℕ) (p k v : ℕ) (before behind : List Bool) → unpack m ≡ before ++ (bits_of k v ++ behind) → length before ≡ p → v < 2 ^ k → field p k m ≡ v
field_is m p k v before behind bits l few = rw (bits, drop_at before (bits_of k v ++ behind) p l, take_at (bits_of k v) behind k (length-bits_of k v)) (number_of-bits_of k v few)

-- ── bits with a count of two bits behind thirty ──

module _ (f r : List Bool) (thirty : length f ≡ 30) where
  abbrev laid : ℕ → List Bool
  laid a = f ++ (bits_of 2 a ++ r)

  laid-length : (a : ℕ) → length (laid a) ≡ 32 + length r
  laid-length a = rw (length-append, length-append, thirty, length-bits_of 2 a) (omega arith)

  module _ (a : ℕ) (few : a < 4) (s : List ℕ) (octets : padded (laid a) ≡ s) where
    abbrev zeros : List Bool
    zeros = padding (length (laid a))

    bits : unpack s ≡ f ++ (bits_of 2 a ++ (r ++ zeros))
    bits = ap unpack (sym octets) ∙ unpack-padded (laid a) ∙ append_assoc f (bits_of 2 a ++ r) zeros ∙ ap (f ++◌) (append_assoc (bits_of 2 a) r zeros)

    hops-are : hop_count s ≡ a
    unfolding hop_count
    hops-are = field_is s 30 2 a f (r ++ zeros) bits thirty few

    lower : (b : ℕ) → hop_count s - 1 ≡ b → lowered s ≡ padded (laid b)
    unfolding lowered
    lower b e =
        let same : length (laid a) ≡ length (laid b) = laid-length a ∙ sym (laid-length b) in
        let long : length s ≡ size (length (laid b)) = ap length (sym octets) ∙ length-pack (size (length (laid a))) _ ∙ ap size same in
        let front : take 30 (unpack s) ≡ f = ap (take 30) bits ∙ take_at f (bits_of 2 a ++ (r ++ zeros)) 30 thirty in
        let two : length (f ++ bits_of 2 a) ≡ 32 = rw (length-append, thirty, length-bits_of 2 a) refl in
        let behind : drop 32 (unpack s) ≡ r ++ zeros = ap (drop 32) (bits ∙ sym (append_assoc f (bits_of 2 a) (r ++ zeros))) ∙ drop_at (f ++ bits_of 2 a) (r ++ zeros) 32 two in
        let whole : f ++ (bits_of 2 b ++ (r ++ zeros)) ≡ laid b ++ zeros = sym (append_assoc f (bits_of 2 b ++ r) zeros ∙ ap (f ++◌) (append_assoc (bits_of 2 b) r zeros)) in
        rw (front, behind, e, long, whole, same) refl

-- ── an N-hop LM ──

module _ (h : NHopForwarding) (transport : THeader) (user_data : List ℕ) where
  abbrev front : List Bool
  front = bits_of 4 2 ++ (flag h.extensions ∷ bits_of 3 h.version ++ bits_of 22 h.message_id)

  abbrev rest : List Bool
  rest = extensions_bits h.extensions ++ (t_header_bits transport ++ (length_bits (length user_data) ++ (unpack user_data ++ [])))

  front_length : length front ≡ 30
  front_length = rw (length-append, length-append, length-bits_of 4 2, length-bits_of 3 h.version, length-bits_of 22 h.message_id) refl

  layout_is : layout_bits (n_hop_lm h transport user_data) ≡ laid front rest front_length h.hop_count
  unfolding layout_bits
  layout_is = simp append_assoc

  layout_less : layout_bits (n_hop_lm (one_less h) transport user_data) ≡ laid front rest front_length (h.hop_count - 1)
  unfolding layout_bits
  layout_less = simp append_assoc

  module _ (s : List ℕ) (x : LaidOut s (n_hop_lm h transport user_data)) where
    few : h.hop_count < 4
    few = omega (arith, x.well_formed.network.hop_count)

    octets-are : padded (laid front rest front_length h.hop_count) ≡ s
    octets-are = ap (λ b. padded b) (sym layout_is) ∙ x.octets

    hops : hop_count s ≡ h.hop_count
    hops = hops-are front rest front_length h.hop_count few s octets-are

    -- the header's fields in front of the bits
    abbrev zeros_of : List Bool
    zeros_of = padding (length (laid front rest front_length h.hop_count))

    abbrev from_count : List Bool
    from_count = bits_of 2 h.hop_count ++ (rest ++ zeros_of)

    all_bits : unpack s ≡ bits_of 4 2 ++ (flag h.extensions ∷ (bits_of 3 h.version ++ (bits_of 22 h.message_id ++ from_count)))
    all_bits = bits front rest front_length h.hop_count few s octets-are ∙ simp append_assoc

    version_is : version s ≡ h.version
    unfolding version
    version_is =
        let five : length (bits_of 4 2 ++ (flag h.extensions ∷ [])) ≡ 5 = rw (length-append, length-bits_of 4 2) refl in
        field_is s 5 3 h.version (bits_of 4 2 ++ (flag h.extensions ∷ [])) (bits_of 22 h.message_id ++ from_count) (all_bits ∙ sym (append_assoc (bits_of 4 2) (flag h.extensions ∷ []) _)) five
        (omega (arith, x.well_formed.network.version))

    id_is : message_id s ≡ h.message_id
    unfolding message_id
    id_is =
        let before = bits_of 4 2 ++ (flag h.extensions ∷ bits_of 3 h.version) in
        let eight : length before ≡ 8 = rw (length-append, length-bits_of 4 2, length-bits_of 3 h.version) refl in
        field_is s 8 22 h.message_id before from_count (all_bits ∙ sym (append_assoc (bits_of 4 2) (flag h.extensions ∷ bits_of 3 h.version) _)) eight (omega (arith, x.well_formed.network.message_id))

    subtype_is : subtype s ≡ 2
    unfolding subtype
    subtype_is = field_is s 0 4 2 [] _ all_bits refl (omega arith)

    long : 4 ≤ length s
    long =
        let n : length s ≡ size (32 + length rest) = ap length (sym octets-are) ∙ length-pack _ _ ∙ ap size (laid-length front rest front_length h.hop_count) in
        omega arith

    less : LaidOut (lowered s) (n_hop_lm (one_less h) transport user_data)
    less = record {
      well_formed = record {
        network = record { version = x.well_formed.network.version; message_id = x.well_formed.network.message_id; hop_count = omega (arith, few); extensions = x.well_formed.network.extensions };
        transport = x.well_formed.transport;
        user_data = x.well_formed.user_data;
        most = x.well_formed.most;
      };
      version = x.version;
      octets = ap (λ b. padded b) layout_less ∙ sym (lower front rest front_length h.hop_count few s octets-are (h.hop_count - 1) (ap (λ (k : ℕ). k - 1) hops));
    }

-- ── read by name ──

-- the subtype of what is laid out
subtype_of : (s : List ℕ) (l : Lm) (k : ℕ) (more : List Bool) → k < 16 → LaidOut s l → layout_bits l ≡ bits_of 4 k ++ more → subtype s ≡ k
unfolding subtype
subtype_of s l k more h x e =
    let bits : unpack s ≡ bits_of 4 k ++ (more ++ padding (length (layout_bits l))) = ap unpack (sym x.octets) ∙ unpack-padded (layout_bits l) ∙ ap (◌++ padding (length (layout_bits l))) e ∙ append_assoc (bits_of 4 k) more _ in
    rw (bits, take_at (bits_of 4 k) (more ++ padding (length (layout_bits l))) 4 (length-bits_of 4 k)) (number_of-bits_of 4 k h)

module _ (s : List ℕ) (m : Message s) (room : ℕ) (vs : List ℤ) (n : ℕ) (some : 1 ≤ hop_count s) where
  -- a message that is lowered is one
  lowered-message : Message (lowered s)
  lowered-message = record { octets = lowered-octets s; most = subst (λ (k : ℕ). k ≤ 65535) (sym (lowered-size s)) m.most }

  go : (network : NHeader) (transport : THeader) (user_data : List ℕ) → LaidOut s (record { network = network; transport = transport; user_data = user_data })
      → values_of (record { network = network; transport = transport; user_data = user_data }) ≡ vs → length vs ≤ room → length (layout_bits (record { network = network; transport = transport; user_data = user_data })) ≡ n
      → subtype s ≡ 2 → read_lm_outcome (lowered s) room ≡ accept (set vs 4 (pos (hop_count s - 1))) n
  unfolding values_of layout_bits
  go (null_networking h) transport user_data x v fits b two = absurd (zero-two (sym (subtype_of s _ 0 _ (omega arith) x (append_assoc (bits_of 4 0) _ _)) ∙ two))
    where
      zero-two : ◌≡◌ {A = ℕ} 0 2 → ⊥
      zero-two e = omega arith
  go (internal_forwarding h) transport user_data x v fits b two = absurd (one_two (sym (subtype_of s _ 1 _ (omega arith) x (append_assoc (bits_of 4 1) _ _)) ∙ two))
    where
      one_two : ◌≡◌ {A = ℕ} 1 2 → ⊥
      one_two e = omega arith
  go (n_hop_forwarding h) transport user_data x v fits b two =
      let e = hops h transport user_data s x in
      let l = n_hop_lm (one_less h) transport user_data in
      let values : values_of l ≡ set vs 4 (pos (hop_count s - 1)) = rw (e, ← v) refl in
      let short : length (set vs 4 (pos (hop_count s - 1))) ≤ room = rw (length-set vs 4 (pos (hop_count s - 1))) fits in
      let same : length (layout_bits l) ≡ n =
      ap length (layout_less h transport user_data) ∙ laid-length (front h transport user_data) (rest h transport user_data) (front_length h transport user_data) (h.hop_count - 1)
      ∙ sym (laid-length (front h transport user_data) (rest h transport user_data) (front_length h transport user_data) h.hop_count) ∙ ap length (sym (layout_is h transport user_data)) ∙ b in
      (demand2-lm.reads (lowered s) lowered-message room (set vs 4 (pos (hop_count s - 1))) n).1 (l, less h transport user_data s x, values, short, same)

  reads : read_lm_outcome s room ≡ accept vs n → subtype s ≡ 2 → read_lm_outcome (lowered s) room ≡ accept (set vs 4 (pos (hop_count s - 1))) n
  reads e two =
      let x = (demand2-lm.reads s m room vs n).0 e in
      let l = x.0 in
      go l.network l.transport l.user_data x.1 x.2 x.3 x.4 two

pub of_lm : OfLm
unfolding version subtype lm_version lm_subtype
of_lm = record {
  tests = λ m. (refl, refl);
  fields = λ s h transport user_data x. record {
    long = long h transport user_data s x;
    two = subtype_is h transport user_data s x;
    version = version_is h transport user_data s x;
    id = id_is h transport user_data s x;
    hops = hops h transport user_data s x;
  };
  heads = λ s m h transport user_data x some. record {
    most = m.most;
    long = long h transport user_data s x;
    three = version_is h transport user_data s x ∙ x.version;
    two = subtype_is h transport user_data s x;
    hops = subst (λ (k : ℕ). 1 ≤ k) (sym (hops h transport user_data s x)) some;
  };
  laid = λ s h transport user_data x some. less h transport user_data s x;
  reads = λ s m room vs n e two some. reads s m room vs n some e two;
}
