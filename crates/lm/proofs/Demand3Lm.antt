-- Demand 3 holds of an LM by name.
-- Assumes nothing.
use Prim.Native.Nat.{ℕ, ◌≤◌}
use mathlib.Core.Bool.{Bool, true, false}
use mathlib.Core.Path.{◌≡◌, refl, sym, ap, ◌∙◌}
use mathlib.Core.List.{List, ◌∷◌, ◌++◌, append_assoc}
use native.Mathlib.Omega.{arith}
use lib.Dec.{leb, eqb}
use lib.IntN.{ℤ, pos}
use lib.ListN.{length, get_or, length-append, length-replicate}
use borrow.Author.Tests.{le-leb, eqb-true, eq-eqb}
use Rattle.answer.specs.declared.Refusal.{Refusal}
use Rattle.bits.specs.Bits.{bits_of, unpack}
use Rattle.bits.proofs.Bits.{length-pack, unpack-pack}
use Rattle.table.specs.Verdict.{checked}
use Rattle.items.specs.Items.{encoding_bits}
use Rattle.encoding.specs.Rows.{asks}
use Rattle.items.specs.Encoding.{size, padding, padded, encoding}
use Rattle.items.specs.Reading.{ReadOutcome, accept, read_answer}
use Rattle.items.specs.Writing.{written, write_answer}
use Rattle.items.specs.Slices.{values_after, output_after}
use Rattle.encoding.specs.Demand3.{Message, Stands}
use Rattle.items.proofs.Messages.{one_list}
use Rattle.encoding.proofs.Demand3.{stands-decode, decode-stands, accepted-outcome, given, stands-encode}
use Rattle.builtin.specs.Tables.{lm}
use Rattle.builtin.proofs.Tables.{lm-passes}
use Rattle.lm.specs.ByName.{lm_version, lm_subtype, read_if, read_lm_outcome, write_lm_outcome}
use Rattle.lm.specs.Demand3Lm.{StandsLm, Demand3Lm}
use Rattle.lm.proofs.FirstOctet.{First, first, subtype_is, version_is}

-- the bits of padded octets
pub unpack-padded : (b : List Bool) → unpack (padded b) ≡ b ++ padding (length b)
unpack-padded b = unpack-pack (size (length b)) (b ++ padding (length b)) (rw (length-append, length-replicate) (omega arith))

-- the tests look at the first three values of the list that stands for the octets
module _ (s : List ℕ) (room : ℕ) (vs : List ℤ) (stands : Stands (asks lm) s room vs) where
  abbrev firsts : First vs (encoding_bits (asks lm) vs)
  firsts = first vs stands.allowed

  not_empty : 1 ≤ length s
  not_empty = omega (arith, ap length (sym stands.encodes) ∙ length-pack _ _)

  bits : unpack s ≡ bits_of 4 firsts.subtype ++ (firsts.bit ∷ bits_of 3 firsts.version ++ (firsts.bits_after_lem ++ padding (length (encoding_bits (asks lm) vs))))
  bits =
      let b = encoding_bits (asks lm) vs in
      let e : unpack s ≡ b ++ padding (length b) = ap unpack (sym stands.encodes) ∙ unpack-padded b in
      e ∙ ap (◌++ padding (length b)) firsts.bits ∙ simp append_assoc

  subtype : lm_subtype s ≡ firsts.subtype
  subtype = subtype_is s _ _ _ _ bits (omega (arith, firsts.subtype-most))

  version : lm_version s ≡ firsts.version
  version = version_is s _ _ _ _ bits (omega (arith, firsts.version-most))

  third : get_or vs 2 (pos 0) ≡ pos (lm_version s)
  third = ap (λ vs. get_or vs 2 (pos 0)) firsts.values ∙ ap pos (sym version)

  zeroth : get_or vs 0 (pos 0) ≡ pos (lm_subtype s)
  zeroth = ap (λ vs. get_or vs 0 (pos 0)) firsts.values ∙ ap pos (sym subtype)

  subtype-most : lm_subtype s ≤ 2
  subtype-most = omega (arith, subtype, firsts.subtype-most)

  three-values : 3 ≤ length vs
  three-values = omega (arith, ap length firsts.values)

-- what passes the tests is read as under the table
pub read_if-inv : (t : Bool) (refusal : Refusal) (x : ReadOutcome) {vs : List ℤ} {m : ℕ} → read_if t refusal x ≡ accept vs m → (t ≡ true) × (x ≡ accept vs m)
read_if-inv true refusal x e = (refl, e)
read_if-inv false refusal x e = (cc, cc)

module _ (s : List ℕ) (message : Message s) (room : ℕ) (vs : List ℤ) where
  pub stands_read : StandsLm s room vs → read_lm_outcome s room ≡ accept vs (length (encoding_bits (asks lm) vs))
  unfolding read_lm_outcome
  stands_read a =
      let q : pos (lm_version s) ≡ pos 3 = sym (third s room vs a.stands) ∙ a.version in
      let v : lm_version s ≡ 3 = cc in
      rw (
        le-leb (length s) 65535 message.most,
        le-leb 1 (length s) (not_empty s room vs a.stands),
        eq-eqb (lm_version s) 3 v,
        le-leb (lm_subtype s) 2 (subtype-most s room vs a.stands),
      )
      (stands-decode (asks lm) s room vs a.stands)

  pub read-stands : (n : ℕ) → read_lm_outcome s room ≡ accept vs n → StandsLm s room vs
  unfolding read_lm_outcome
  read-stands n e =
      let c = read_if-inv (leb (length s) 65535) _ _ e in
      let d = read_if-inv (leb 1 (length s)) _ _ c.1 in
      let f = read_if-inv (eqb (lm_version s) 3) _ _ d.1 in
      let g = read_if-inv (leb (lm_subtype s) 2) _ _ f.1 in
      let a = decode-stands (asks lm) s room vs n message g.1 in
      record { stands = a; version = third s room vs a ∙ ap pos (eqb-true (lm_version s) 3 f.0) }

  pub stands-write : StandsLm s room vs → (cap : ℕ) → length s ≤ cap → write_lm_outcome vs cap ≡ written s
  unfolding write_lm_outcome
  stands-write a cap l =
      rw (le-leb 3 (length vs) (three-values s room vs a.stands), a.version, zeroth s room vs a.stands, le-leb (lm_subtype s) 2 (subtype-most s room vs a.stands))
      (stands-encode (asks lm) s room vs message a.stands cap l)

pub demand3-lm : Demand3Lm
demand3-lm = record {
  checks = ap (λ v. checked v) lm-passes;
  accepts = λ s m room. (
    (λ x. let y = accepted-outcome (read_lm_outcome s room) x.0 x.1 in (y.0, read-stands s m room y.0 y.1 y.2)),
    (λ x. (_, ap read_answer (stands_read s m room x.0 x.1))),
  );
  one = λ s room vs ws a b. one_list (asks lm) vs ws a.stands.allowed b.stands.allowed (a.stands.encodes ∙ sym b.stands.encodes);
  comes = λ s m room vs a.
      let e = stands_read s m room vs a in
      (ap read_answer e, ap (values_after room) e);
  returns = λ s m room vs a cap l.
      let e = stands-write s m room vs a cap l in
      (ap write_answer e, ap (output_after cap) e);
  apart = λ s s' m m' room room' c c' a b e.
      let x = accepted-outcome (read_lm_outcome s room) c a in
      let y = accepted-outcome (read_lm_outcome s' room') c' b in
      let l : x.0 ≡ y.0 = sym (given room (read_lm_outcome s room) c a x.0 x.1 x.2) ∙ (e ∙ given room' (read_lm_outcome s' room') c' b y.0 y.1 y.2) in
      sym (read-stands s m room x.0 x.1 x.2).stands.encodes
      ∙ (ap (λ vs. encoding (asks lm) vs) l ∙ (read-stands s' m' room' y.0 y.1 y.2).stands.encodes);
}
