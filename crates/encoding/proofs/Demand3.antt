-- Demand 3 holds of every table.
-- Assumes nothing.
use Prim.Native.Nat.{ℕ, ◌-◌, ◌≤◌}
use mathlib.Core.Path.{◌≡◌, refl, sym, ap, ◌∙◌}
use mathlib.Core.Logic.{◌↔◌}
use mathlib.Core.List.{List}
use native.Mathlib.Omega.{arith}
use lib.IntN.{ℤ, pos}
use lib.ListN.{length, replicate, take}
use lib.Seq.{take-append_seam}
use borrow.Author.Tests.{le-leb}
use Rattle.answer.specs.Numbers.{accepted}
use Rattle.answer.specs.declared.Counts.{Counts}
use Rattle.rules.specs.Rules.{Obeys}
use Rattle.table.specs.Verdict.{Verdict, passed, broken, verdict, checked}
use Rattle.table.proofs.Decides.{passes-exactly}
use Rattle.bits.proofs.Bits.{length-pack}
use Rattle.items.specs.Items.{Items, encoding_bits}
use Rattle.encoding.specs.Rows.{asks}
use Rattle.items.specs.Encoding.{size, encoding}
use Rattle.items.specs.Reading.{ReadOutcome, accept, refuse, decode, read_answer}
use Rattle.encoding.specs.Reading.{read_outcome}
use Rattle.items.specs.Writing.{written, encode, write_answer}
use Rattle.encoding.specs.Writing.{write_outcome}
use Rattle.items.specs.Slices.{values_after, output_after}
use Rattle.encoding.specs.Demand3.{Message, Stands, Demand3}
use Rattle.items.proofs.Messages.{one_list, one_message, decode-complete, decode-sound}
use Rattle.items.proofs.Written.{encode-complete}
use Rattle.std.proofs.Common.{Ok}

-- the check's answer is accepted exactly for the verdict passed
checked-passed : (v : Verdict) → (checked v ≡ accepted 0 0 0) ↔ (v ≡ passed)
checked-passed passed = (λ e. refl, λ e. refl)
checked-passed (broken refusal) = (λ e. let z : ◌≡◌ {A = ℕ} 0 1 = cc in absurd (omega arith), λ e. let z : ◌≡◌ {A = ℕ} 0 1 = cc in absurd (omega arith))

-- what stands for a message is what decoding accepts
pub stands-decode : (p : Items) (s : List ℕ) (room : ℕ) (vs : List ℤ) → Stands p s room vs → decode p s room ≡ accept vs (length (encoding_bits p vs))
stands-decode p s room vs h = rw (← h.encodes) (decode-complete p vs room h.allowed h.short)

pub decode-stands : (p : Items) (s : List ℕ) (room : ℕ) (vs : List ℤ) (n : ℕ) → Message s → decode p s room ≡ accept vs n → Stands p s room vs
decode-stands p s room vs n m e =
    let a = decode-sound p s room m.octets vs n e in
    record { allowed = a.allowed; short = a.fits; encodes = a.octets }

-- an outcome whose answer is accepted
pub accepted-outcome : (x : ReadOutcome) (counts : Counts) → read_answer x ≡ Ok counts → (vs : List ℤ) × (n : ℕ) × (x ≡ accept vs n)
accepted-outcome (accept vs n) counts e = (vs, n, refl)
accepted-outcome (refuse refusal) counts e = let z : ◌≡◌ {A = ℕ} 0 1 = cc in absurd (omega arith)

-- the list that an accepted reading gives: so many values of the slice
pub given : (room : ℕ) (x : ReadOutcome) (c : Counts) → read_answer x ≡ Ok c → (vs : List ℤ) (n : ℕ) → x ≡ accept vs n → take c.values (values_after room x) ≡ vs
given room x c a vs n e =
    let z : length vs ≡ c.values = cc in
    rw (← z, e) (take-append_seam vs (replicate (room - length vs) (pos 0)))

pub length-encoding : (p : Items) (vs : List ℤ) → length (encoding p vs) ≡ size (length (encoding_bits p vs))
length-encoding p vs = length-pack _ _

-- an allowed list is written as its encoding wherever that fits
pub stands-encode : (p : Items) (s : List ℕ) (room : ℕ) (vs : List ℤ) → Message s → Stands p s room vs → (cap : ℕ) → length s ≤ cap → encode p vs cap ≡ written s
stands-encode p s room vs m h cap l =
    let z : length s ≡ size (length (encoding_bits p vs)) = ap length (sym h.encodes) ∙ length-encoding p vs in
    encode-complete p vs cap h.allowed (omega (arith, m.most)) ∙ ap written h.encodes

module _ (t : List ℕ) where
  passes : Obeys t → verdict t ≡ passed
  passes h = (passes-exactly t).1 h

  pub read-passed : Obeys t → (s : List ℕ) → Message s → (room : ℕ) → read_outcome t s room ≡ decode (asks t) s room
  unfolding read_outcome
  read-passed h s m room = rw (passes h, le-leb (length s) 65535 m.most)

  pub write-passed : Obeys t → (vs : List ℤ) (cap : ℕ) → write_outcome t vs cap ≡ encode (asks t) vs cap
  unfolding write_outcome
  write-passed h vs cap = rw (passes h)

  pub demand3 : Demand3 t
  demand3 = record {
    checks = (λ e. (passes-exactly t).0 ((checked-passed (verdict t)).0 e), λ h. (checked-passed (verdict t)).1 (passes h));
    accepts = λ h s m room. (
      (λ x. let y = accepted-outcome (read_outcome t s room) x.0 x.1 in
          (y.0, decode-stands (asks t) s room y.0 y.1 m (sym (read-passed h s m room) ∙ y.2))),
      (λ x. (_, ap read_answer (read-passed h s m room ∙ stands-decode (asks t) s room x.0 x.1))),
    );
    one = λ s room vs ws a b. one_list (asks t) vs ws a.allowed b.allowed (a.encodes ∙ sym b.encodes);
    comes = λ h s m room vs a.
        let e = read-passed h s m room ∙ stands-decode (asks t) s room vs a in
        (ap read_answer e, ap (values_after room) e);
    returns = λ h s m room vs a cap l.
        let e = write-passed h vs cap ∙ stands-encode (asks t) s room vs m a cap l in
        (ap write_answer e, ap (output_after cap) e);
    apart = λ h s s' m m' room room' c c' a b e.
        let x = accepted-outcome (read_outcome t s room) c a in
        let y = accepted-outcome (read_outcome t s' room') c' b in
        let l : x.0 ≡ y.0 = sym (given room (read_outcome t s room) c a x.0 x.1 x.2) ∙ (e ∙ given room' (read_outcome t s' room') c' b y.0 y.1 y.2) in
        one_message (asks t) s s' room room' m.octets m'.octets x.0 x.1 y.1
        (sym (read-passed h s m room) ∙ x.2)
        (sym (read-passed h s' m' room') ∙ (y.2 ∙ ap (λ vs. accept vs y.1) (sym l)));
  }
