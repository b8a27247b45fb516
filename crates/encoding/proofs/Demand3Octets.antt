-- Demand 3 holds of lists as octets, under every table of octets.
-- Assumes nothing.
use Prim.Native.Nat.{ℕ, ◌+◌, ◌-◌, ◌*◌, ◌/◌, ◌≤◌, ◌<◌}
use mathlib.Core.Bool.{Bool, true, false, cond}
use mathlib.Core.Path.{◌≡◌, refl, sym, ap, ◌∙◌}
use mathlib.Core.List.{List, [], ◌++◌}
use native.Mathlib.Omega.{arith}
use lib.Dec.{leb}
use lib.IntN.{ℤ}
use lib.ListN.{length, take, replicate, length-append, length-replicate, length-take}
use lib.Seq.{take-append_seam, take-append-add, take_at}
use Rattle.answer.specs.Numbers.{refusal_at}
use Rattle.answer.specs.declared.Counts.{Counts}
use Rattle.values.specs.Values.{list_octets, values_in}
use Rattle.values.specs.TwosComplement.{Fitting}
use Rattle.values.proofs.Stores.{length-list_octets, values_in-list_octets}
use Rattle.values.proofs.TwosComplement.{twos-complement}
use Rattle.rules.specs.Rules.{Obeys}
use Rattle.table.specs.Verdict.{Verdict, passed, broken, verdict}
use Rattle.items.specs.Items.{encoding_bits}
use Rattle.encoding.specs.Rows.{asks}
use Rattle.items.specs.Encoding.{encoding}
use Rattle.items.specs.Reading.{ReadOutcome, accept, refuse, decode, read_answer, read_values}
use Rattle.encoding.specs.Reading.{on_passed, read_outcome}
use Rattle.encoding.specs.Writing.{write_outcome}
use Rattle.items.specs.Slices.{filled, packed_after, output_after}
use Rattle.encoding.specs.Calls.{write_call}
use Rattle.encoding.specs.Demand3.{AreOctets, Message, Stands}
use Rattle.encoding.specs.Demand3Octets.{WrittenAs, Demand3Octets}
use Rattle.items.proofs.Messages.{decode_fits}
use Rattle.encoding.proofs.Demand3.{stands-decode, decode-stands, accepted-outcome, read-passed, demand3}
use Rattle.encoding.proofs.Fitting.{fitting}
use Rattle.std.proofs.Common.{Ok}

-- a list that fits a slice of whole eights fits the slice
length-packed : (size : ℕ) (vs : List ℤ) → length vs ≤ size / 8 → length (filled 0 size (list_octets vs)) ≡ size
length-packed size vs h = rw (length-append, length-replicate, length-list_octets) (omega arith)

-- an outcome's values fit the room
outcome_fits : (t s : List ℕ) (room : ℕ) → length (read_values (read_outcome t s room)) ≤ room
unfolding read_outcome
outcome_fits t s room = on (verdict t) (leb (length s) 65535) (decode (asks t) s room) refl
  where
    on : (v : Verdict) (b : Bool) (x : ReadOutcome) → decode (asks t) s room ≡ x → length (read_values (on_passed v (cond b x (refuse (refusal_at 13 0))))) ≤ room
    on (broken refusal) b x q = omega arith
    on passed false x q = omega arith
    on passed true (refuse refusal) q = omega arith
    on passed true (accept vs n) q = decode_fits (asks t) s room vs n q

-- the octets of a list at the front of a slice, and so many more
front : (size : ℕ) (vs : List ℤ) (more : ℕ) → take (8 * length vs + more) (filled 0 size (list_octets vs)) ≡ list_octets vs ++ take more (replicate (size - length (list_octets vs)) 0)
front size vs more =
    ap (λ (k : ℕ). take (k + more) (filled 0 size (list_octets vs))) (sym (length-list_octets vs))
    ∙ take-append-add (list_octets vs) (replicate (size - length (list_octets vs)) 0) more

-- the octets that an accepted reading gives
given-octets : (size : ℕ) (x : ReadOutcome) (c : Counts) → read_answer x ≡ Ok c → (vs : List ℤ) (n : ℕ) → x ≡ accept vs n → take (8 * c.values) (packed_after size x) ≡ list_octets vs
given-octets size x c a vs n e =
    let z : length vs ≡ c.values = cc in
    rw (← z, e) (take_at (list_octets vs) (replicate (size - length (list_octets vs)) 0) (8 * length vs) (length-list_octets vs))

-- octets are those of one list
one_list_of : (vs ws : List ℤ) → Fitting vs → Fitting ws → list_octets vs ≡ list_octets ws → vs ≡ ws
one_list_of vs ws f g e =
    sym (twos-complement.back vs f [] (omega arith)) ∙ ap (λ (o : List ℕ). values_in (o ++ [])) e ∙ twos-complement.back ws g [] (omega arith)

module _ (t : List ℕ) (octets : AreOctets t) where
  lent_written : Obeys t → (s : List ℕ) → Message s → (room : ℕ) (vs : List ℤ) → Stands (asks t) s room vs → (rest : List ℕ) → length rest < 8
      → (cap : ℕ) → length s ≤ cap → WrittenAs t (list_octets vs ++ rest) s cap
  lent_written h s m room vs a rest l cap fits =
      let e : values_in (list_octets vs ++ rest) ≡ vs = twos-complement.back vs (fitting t octets vs a.allowed) rest l in
      let w = (demand3 t).returns h s m room vs a cap fits in
      record { answer = ap (λ us. write_call t us cap) e ∙ w.0; output = ap (λ us. output_after cap (write_outcome t us cap)) e ∙ w.1 }

  comes_back : Obeys t → (s : List ℕ) → Message s → (size : ℕ) (vs : List ℤ) → Stands (asks t) s (size / 8) vs → read_outcome t s (size / 8) ≡ accept vs (length (encoding_bits (asks t) vs))
  comes_back h s m size vs a = read-passed t h s m (size / 8) ∙ stands-decode (asks t) s (size / 8) vs a

  pub demand3-octets : Demand3Octets t
  demand3-octets = record {
    fits = fitting t octets;
    accepts = λ h s m size. (demand3 t).accepts h s m (size / 8);
    comes = λ h s m size vs a. (ap read_answer (comes_back h s m size vs a), ap (packed_after size) (comes_back h s m size vs a));
    end = λ s size. length-packed size (read_values (read_outcome t s (size / 8))) (outcome_fits t s (size / 8));
    holds = λ h s m size vs a.
        let rest : List ℕ = replicate (size - length (list_octets vs)) 0 in
        ap (λ x. take (length vs) (values_in (packed_after size x))) (comes_back h s m size vs a)
        ∙ ap (take (length vs)) (values_in-list_octets vs rest (fitting t octets vs a.allowed))
        ∙ take-append_seam vs (values_in rest);
    returns = λ h s m size vs a more l cap fits.
        let rest : List ℕ = take more (replicate (size - length (list_octets vs)) 0) in
        let e = ap (λ x. take (8 * length vs + more) (packed_after size x)) (comes_back h s m size vs a) ∙ front size vs more in
        rw e (lent_written h s m (size / 8) vs a rest (rw length-take (omega arith)) cap fits);
    lent = lent_written;
    apart = λ h s s' m m' size size' c c' a b e.
        let x = accepted-outcome (read_outcome t s (size / 8)) c a in
        let y = accepted-outcome (read_outcome t s' (size' / 8)) c' b in
        let stands = decode-stands (asks t) s (size / 8) x.0 x.1 m (sym (read-passed t h s m (size / 8)) ∙ x.2) in
        let stands' = decode-stands (asks t) s' (size' / 8) y.0 y.1 m' (sym (read-passed t h s' m' (size' / 8)) ∙ y.2) in
        let o = sym (given-octets size (read_outcome t s (size / 8)) c a x.0 x.1 x.2) ∙ (e ∙ given-octets size' (read_outcome t s' (size' / 8)) c' b y.0 y.1 y.2) in
        let l = one_list_of x.0 y.0 (fitting t octets x.0 stands.allowed) (fitting t octets y.0 stands'.allowed) o in
        sym stands.encodes ∙ ap (λ vs. encoding (asks t) vs) l ∙ stands'.encodes;
  }
