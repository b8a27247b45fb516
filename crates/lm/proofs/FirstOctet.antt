-- The first octet of an LM: what the tests by name look at are the list's first and third values.
-- Assumes nothing.
use Prim.Native.Nat.{ℕ, ◌≤◌, ◌<◌}
use mathlib.Core.Bool.{Bool}
use mathlib.Core.Path.{◌≡◌, refl, ap, ◌∙◌}
use mathlib.Core.List.{List, [], ◌∷◌, ◌++◌, append_assoc}
use native.Mathlib.Omega.{arith}
use lib.IntN.{ℤ, pos}
use lib.ListN.{length, length-append}
use lib.Seq.{take_at, drop_at}
use Rattle.bits.specs.Bits.{bits_of, unpack}
use Rattle.bits.proofs.Bits.{length-bits_of, number_of-bits_of}
use Rattle.items.specs.Items.{Allows, encoding_bits}
use Rattle.encoding.specs.Rows.{asks}
use Rattle.builtin.specs.Tables.{lm}
use Rattle.lm.specs.ByName.{lm_version, lm_subtype}
use Rattle.lm.specs.Clause5.{flag, flag_value, NHeader, null_networking, internal_forwarding, n_hop_forwarding, NHeaderWithin, n_header_values, n_header_bits, values_of, layout_bits}
use Rattle.lm.proofs.Rows.{layout}

-- an LM's first three values, and its first eight bits
pub record First (vs : List ℤ) (b : List Bool) : Type 0 where
  pub subtype : ℕ
  pub extended : ℤ
  pub version : ℕ
  pub values_after_lem : List ℤ
  pub bit : Bool
  pub bits_after_lem : List Bool
  pub values : vs ≡ pos subtype ∷ extended ∷ pos version ∷ values_after_lem
  pub bits : b ≡ bits_of 4 subtype ++ (bit ∷ bits_of 3 version ++ bits_after_lem)
  pub subtype-most : subtype ≤ 2
  pub version-most : version ≤ 7

of_header : (h : NHeader) → NHeaderWithin h → First (n_header_values h) (n_header_bits h)
of_header (null_networking h) f =
    record { subtype = 0; extended = flag_value h.extensions; version = h.version; values_after_lem = _; bit = flag h.extensions; bits_after_lem = _; values = refl; bits = refl; subtype-most = omega arith; version-most = f.version }
of_header (internal_forwarding h) f =
    record { subtype = 1; extended = flag_value h.extensions; version = h.version; values_after_lem = _; bit = flag h.extensions; bits_after_lem = _; values = refl; bits = refl; subtype-most = omega arith; version-most = f.version }
of_header (n_hop_forwarding h) f =
    record { subtype = 2; extended = flag_value h.extensions; version = h.version; values_after_lem = _; bit = flag h.extensions; bits_after_lem = _; values = refl; bits = refl; subtype-most = omega arith; version-most = f.version }

-- and with more behind it
with_more : {vs : List ℤ} {b : List Bool} (ws : List ℤ) (c : List Bool) → First vs b → First (vs ++ ws) (b ++ c)
with_more ws c x = record {
  subtype = x.subtype;
  extended = x.extended;
  version = x.version;
  values_after_lem = x.values_after_lem ++ ws;
  bit = x.bit;
  bits_after_lem = x.bits_after_lem ++ c;
  values = ap (◌++ ws) x.values;
  bits = ap (◌++ c) x.bits ∙ simp append_assoc;
  subtype-most = x.subtype-most;
  version-most = x.version-most;
}

pub first : (vs : List ℤ) → Allows (asks lm) vs → First vs (encoding_bits (asks lm) vs)
unfolding values_of layout_bits
first vs h =
    let x = layout.only vs h in
    rw (← x.2, layout.laid x.0 x.1) (with_more _ _ (of_header x.0.network x.1.network))

-- the tests of an LM by name look at these bits
module _ (s : List ℕ) (a v : ℕ) (bit : Bool) (after : List Bool) (bits : unpack s ≡ bits_of 4 a ++ (bit ∷ bits_of 3 v ++ after)) where
  pub subtype_is : a < 16 → lm_subtype s ≡ a
  unfolding lm_subtype
  subtype_is h = rw (bits, take_at (bits_of 4 a) (bit ∷ bits_of 3 v ++ after) 4 (length-bits_of 4 a)) (number_of-bits_of 4 a h)

  pub version_is : v < 8 → lm_version s ≡ v
  unfolding lm_version
  version_is h =
      let l : length (bits_of 4 a ++ (bit ∷ [])) ≡ 5 = rw (length-append, length-bits_of 4 a) in
      rw (
        bits,
        ← (append_assoc (bits_of 4 a) (bit ∷ []) (bits_of 3 v ++ after)),
        drop_at (bits_of 4 a ++ (bit ∷ [])) (bits_of 3 v ++ after) 5 l,
        take_at (bits_of 3 v) after 3 (length-bits_of 3 v),
      ) (number_of-bits_of 3 v h)
