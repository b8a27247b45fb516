-- Under a table that breaks a rule its fault is answered, and its numbers under no other.
-- Assumes nothing.
use Prim.Native.Nat.{ℕ, ◌-◌}
use mathlib.Core.Path.{◌≡◌, refl, ap, ◌∙◌}
use mathlib.Core.List.{List}
use native.Mathlib.Omega.{arith}
use lib.IntN.{ℤ, pos}
use lib.ListN.{replicate}
use Rattle.values.specs.Values.{list_octets}
use Rattle.answer.specs.Numbers.{refusal_at, refused}
use Rattle.rules.specs.Rules.{its_end, its_kind, its_length, its_numbers, its_references, its_branch, its_depth}
use Rattle.table.specs.Faults.{Fault, too_small, too_large, in_row}
use Rattle.table.specs.Verdict.{Verdict, passed, broken, verdict}
use Rattle.table.proofs.Decides.{refuses-exactly}
use Rattle.items.specs.Reading.{ReadOutcome, accept, refuse, read_message, read_answer}
use Rattle.items.specs.Writing.{WriteOutcome, written, unwritten, encode, write_answer}
use Rattle.items.specs.Slices.{values_after, packed_after, output_after}
use Rattle.items.proofs.Numbers.{OfMessage, read_of, encode_of}
use Rattle.encoding.specs.Rows.{asks}
use Rattle.encoding.specs.Reading as reading
use Rattle.encoding.specs.Reading.{read_outcome}
use Rattle.encoding.specs.Writing as writing
use Rattle.encoding.specs.Writing.{write_outcome}
use Rattle.encoding.specs.UnderTable.{OfTable, of_size, of_part, UnderTable}

-- no number of a table is one of a message
apart : (n : ℕ) → OfTable n → OfMessage n → ⊥
apart n of_size h = omega (arith, h.0)
apart n (of_part its_end) h = omega (arith, h.1)
apart n (of_part its_kind) h = omega (arith, h.1)
apart n (of_part its_length) h = omega (arith, h.1)
apart n (of_part its_numbers) h = omega (arith, h.1)
apart n (of_part its_references) h = omega (arith, h.1)
apart n (of_part its_branch) h = omega (arith, h.1)
apart n (of_part its_depth) h = omega (arith, h.1)

fault-number : (t : List ℕ) (n p : ℕ) → Fault t n p → OfTable n
fault-number t n p (too_small h) = of_size
fault-number t n p (too_large h) = of_size
fault-number t n p (in_row {o} {part} a b f) = of_part part

-- nothing, followed by zeros
all_zeros : {A : Type 0} (n : ℕ) (z : A) → replicate (n - 0) z ≡ replicate n z
all_zeros n z = let e : n - 0 ≡ n = omega arith in ap (λ k. replicate k z) e

module _ (t : List ℕ) where
  -- what a fault makes of reading and of writing
  fault-read : (s : List ℕ) (room n p : ℕ) → Fault t n p → read_outcome t s room ≡ refuse (refusal_at n p)
  unfolding read_outcome
  fault-read s room n p f = rw ((refuses-exactly t n p).1 f)

  fault-written : (vs : List ℤ) (cap n p : ℕ) → Fault t n p → write_outcome t vs cap ≡ unwritten (refusal_at n p)
  unfolding write_outcome
  fault-written vs cap n p f = rw ((refuses-exactly t n p).1 f)

  -- a refusal with a table's number is the verdict's
  read-fault : (s : List ℕ) (room n p : ℕ) → OfTable n → read_answer (read_outcome t s room) ≡ refused n p → Fault t n p
  unfolding read_outcome
  read-fault s room n p h e = go (verdict t) refl e
    where
      of_answer : (x : ReadOutcome) → read_answer x ≡ refused n p → x ≡ refuse (refusal_at n p)
      of_answer (accept vs bits) e = absurd (let z : ◌≡◌ {A = ℕ} 0 1 = cc in omega arith)
      of_answer (refuse r) e = cc

      go : (v : Verdict) → verdict t ≡ v → read_answer (reading.on_passed v (read_message (asks t) s room)) ≡ refused n p → Fault t n p
      go passed q e = absurd (apart n h (read_of (asks t) s room n p (of_answer (read_message (asks t) s room) e)))
      go (broken r) q e = (refuses-exactly t n p).0 (q ∙ let z : r ≡ refusal_at n p = cc in ap broken z)

  write-fault : (vs : List ℤ) (cap n p : ℕ) → OfTable n → write_answer (write_outcome t vs cap) ≡ refused n p → Fault t n p
  unfolding write_outcome
  write-fault vs cap n p h e = go (verdict t) refl e
    where
      of_answer : (x : WriteOutcome) → write_answer x ≡ refused n p → x ≡ unwritten (refusal_at n p)
      of_answer (written s) e = absurd (let z : ◌≡◌ {A = ℕ} 0 1 = cc in omega arith)
      of_answer (unwritten r) e = cc

      go : (v : Verdict) → verdict t ≡ v → write_answer (writing.on_passed v (encode (asks t) vs cap)) ≡ refused n p → Fault t n p
      go passed q e = absurd (apart n h (encode_of (asks t) vs cap (refusal_at n p) (of_answer (encode (asks t) vs cap) e)))
      go (broken r) q e = (refuses-exactly t n p).0 (q ∙ let z : r ≡ refusal_at n p = cc in ap broken z)

  pub under_table : UnderTable t
  unfolding list_octets
  under_table = record {
    reading = λ s room n p h. (read-fault s room n p h, λ f. ap (λ x. read_answer x) (fault-read s room n p f));
    writing = λ vs cap n p h. (write-fault vs cap n p h, λ f. ap (λ x. write_answer x) (fault-written vs cap n p f));
    numbers = fault-number t;
    values = λ n p f s room. ap (values_after room) (fault-read s room n p f) ∙ all_zeros room (pos 0);
    octets = λ n p f s size room. ap (packed_after size) (fault-read s room n p f) ∙ all_zeros size 0;
    output = λ n p f vs cap. ap (output_after cap) (fault-written vs cap n p f) ∙ all_zeros cap 0;
  }
