-- Demand 2 holds of an LM by name: the table is the layout, and reading and writing go by it.
-- Assumes nothing.
use Prim.Native.Nat.{ℕ, ◌≤◌}
use mathlib.Core.Bool.{Bool, true, false, false≢true}
use mathlib.Core.Path.{◌≡◌, refl, sym, ap, ◌∙◌}
use mathlib.Core.List.{List, ◌++◌}
use native.Mathlib.Omega.{arith}
use lib.Dec.{leb, eqb}
use lib.IntN.{ℤ, pos, negsuc}
use lib.ListN.{length, get_or}
use borrow.Author.Tests.{eqb-true}
use Rattle.answer.specs.declared.Refusal.{Refusal}
use Rattle.item.specs.Code.{of_natural}
use Rattle.items.specs.Items.{Allows, encoding_bits}
use Rattle.encoding.specs.Rows.{asks}
use Rattle.items.specs.Encoding.{padded, encoding}
use Rattle.items.specs.Reading.{accept}
use Rattle.items.specs.Writing.{WriteOutcome, written}
use Rattle.encoding.specs.Demand3.{Message}
use Rattle.items.proofs.Written.{encode-sound}
use Rattle.builtin.specs.Tables.{lm}
use Rattle.lm.specs.ByName.{read_lm_outcome, write_if, write_lm_outcome}
use Rattle.lm.specs.Clause5.{Lm, NHeader, null_networking, internal_forwarding, n_hop_forwarding, n_header_values, n_header_version, layout_bits, values_of, version_of}
use Rattle.lm.specs.Demand2.{LaidOut, Demand2Lm}
use Rattle.lm.specs.Demand3Lm.{StandsLm}
use Rattle.lm.proofs.Rows.{layout}
use Rattle.lm.proofs.Demand3Lm.{stands_read, read-stands, stands-write}

-- the third value is the version
third-value : (h : NHeader) (ws : List ℤ) → get_or (n_header_values h ++ ws) 2 (pos 0) ≡ pos (n_header_version h)
third-value (null_networking h) ws = refl
third-value (internal_forwarding h) ws = refl
third-value (n_hop_forwarding h) ws = refl

version-value : (l : Lm) → get_or (values_of l) 2 (pos 0) ≡ pos (version_of l)
unfolding values_of
version-value l = third-value l.network _

-- an allowed list whose version is 3 is that of an LM laid out as its encoding
laid_out : (vs : List ℤ) (s : List ℕ) → Allows (asks lm) vs → encoding (asks lm) vs ≡ s → get_or vs 2 (pos 0) ≡ pos 3 → (l : Lm) × LaidOut s l × (values_of l ≡ vs)
laid_out vs s a e v =
    let x = layout.only vs a in
    let q : pos (version_of x.0) ≡ pos 3 = sym (version-value x.0) ∙ ap (λ vs. get_or vs 2 (pos 0)) x.2 ∙ v in
    let b : encoding_bits (asks lm) vs ≡ layout_bits x.0 = ap (encoding_bits (asks lm)) (sym x.2) ∙ layout.laid x.0 x.1 in
    (x.0, record { well_formed = x.1; version = cc; octets = ap (λ b. padded b) (sym b) ∙ e }, x.2)

-- and the other way round
stands : (s : List ℕ) (l : Lm) (room : ℕ) → LaidOut s l → length (values_of l) ≤ room → StandsLm s room (values_of l)
stands s l room h fits = record {
  stands = record { allowed = layout.allowed l h.well_formed; short = fits; encodes = ap (λ b. padded b) (layout.laid l h.well_formed) ∙ h.octets };
  version = version-value l ∙ ap pos h.version;
}

write_if-inv : (t : Bool) (refusal : Refusal) (x : WriteOutcome) {s : List ℕ} → write_if t refusal x ≡ written s → (t ≡ true) × (x ≡ written s)
write_if-inv true refusal x e = (refl, e)
write_if-inv false refusal x e = (cc, cc)

is_three : (v : ℤ) → of_natural (λ n. eqb n 3) v ≡ true → v ≡ pos 3
is_three (pos n) h = ap pos (eqb-true n 3 h)
is_three (negsuc n) h = absurd (false≢true h)

module _ (s : List ℕ) (m : Message s) (room : ℕ) (vs : List ℤ) (n : ℕ) where
  -- an LM that is laid out as s, and whose list is vs
  abbrev Read : Type 0
  Read = (l : Lm) × LaidOut s l × (values_of l ≡ vs) × (length vs ≤ room) × (length (layout_bits l) ≡ n)

  read-laid : read_lm_outcome s room ≡ accept vs n → Read
  read-laid e =
      let a = read-stands s m room vs n e in
      let x = laid_out vs s a.stands.allowed a.stands.encodes a.version in
      let b : encoding_bits (asks lm) vs ≡ layout_bits x.0 = ap (encoding_bits (asks lm)) (sym x.2) ∙ layout.laid x.0 x.1.well_formed in
      let c : accept vs (length (encoding_bits (asks lm) vs)) ≡ accept vs n = sym (stands_read s m room vs a) ∙ e in
      (x.0, x.1, x.2, a.stands.short, ap length (sym b) ∙ cc)

  laid-read : Read → read_lm_outcome s room ≡ accept vs n
  laid-read x =
      let l = x.0 in
      let a = stands s l room x.1 (rw x.2 x.3) in
      stands_read s m room (values_of l) a ∙ ap (λ k. accept (values_of l) k) (ap length (layout.laid l x.1.well_formed) ∙ x.4) ∙ ap (λ vs. accept vs n) x.2

written-laid : (vs : List ℤ) (cap : ℕ) (s : List ℕ) → write_lm_outcome vs cap ≡ written s → (l : Lm) × LaidOut s l × (values_of l ≡ vs)
unfolding write_lm_outcome
written-laid vs cap s e =
    let a = write_if-inv (leb 3 (length vs)) _ _ e in
    let b = write_if-inv (of_natural (λ n. eqb n 3) (get_or vs 2 (pos 0))) _ _ a.1 in
    let c = write_if-inv (of_natural (λ n. leb n 2) (get_or vs 0 (pos 0))) _ _ b.1 in
    let w = encode-sound (asks lm) vs cap s c.1 in
    laid_out vs s w.allowed w.octets (is_three (get_or vs 2 (pos 0)) b.0)

pub demand2-lm : Demand2Lm
demand2-lm = record {
  allowed = layout.allowed;
  only = layout.only;
  laid = layout.laid;
  reads = λ s m room vs n. (read-laid s m room vs n, laid-read s m room vs n);
  writes = λ s m l h cap fits. stands-write s m (length (values_of l)) (values_of l) (stands s l (length (values_of l)) h (omega arith)) cap fits;
  written_only = written-laid;
}
