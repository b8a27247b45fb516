-- The tests before an LM's items, and what they leave of its outcome.
-- Assumes nothing.
use Prim.Native.Nat.{ℕ, ◌≤◌, ◌<◌}
use mathlib.Core.Bool.{Bool, true, false}
use mathlib.Core.Path.{◌≡◌, refl, sym, ap, ◌∙◌}
use mathlib.Core.Logic.{◌≢◌}
use mathlib.Core.List.{List}
use native.Mathlib.Omega.{arith}
use lib.Dec.{leb, eqb}
use lib.ListN.{length, take, drop}
use borrow.Author.Tests.{leb-true, le-leb, lt-leb, eq-eqb, ne_eqb}
use Rattle.answer.specs.Numbers.{Answer, refusal_at, accepted, refused, answer_if}
use Rattle.answer.proofs.Numbers.{answer_if-accepted}
use Rattle.bits.specs.Bits.{number_of, unpack}
use Rattle.answer.specs.declared.Counts.{Counts}
use Rattle.answer.specs.declared.Refusal.{Refusal}
use Rattle.encoding.specs.Rows.{asks}
use Rattle.items.specs.Reading.{ReadOutcome, accept, refuse, decode, read_values}
use Rattle.items.proofs.Messages.{decode_fits}
use Rattle.builtin.specs.Tables.{lm}
use Rattle.lm.specs.ByName.{lm_version, lm_subtype, read_if, read_lm_outcome}
use Rattle.lm_guard.specs.Tested.{lm_tested}
use Rattle.std.proofs.Common.{Ok, Err}

-- ── each test as the code makes it ──

module _ (s : List ℕ) where
  pub tested-long : 65535 < length s → refused 13 0 ≡ lm_tested s
  unfolding lm_tested
  tested-long h = rw (lt-leb (length s) 65535 h)

  module _ (most : length s ≤ 65535) where
    pub tested-empty : length s < 1 → refused 2 0 ≡ lm_tested s
    unfolding lm_tested
    tested-empty h = rw (le-leb (length s) 65535 most, lt-leb 1 (length s) h)

    module _ (some : 1 ≤ length s) (version : ℕ) (ev : version ≡ number_of (take 3 (drop 5 (unpack s)))) where
      pub tested-version : version ≢ 3 → refused 10 5 ≡ lm_tested s
      unfolding lm_tested lm_version
      tested-version h = rw (le-leb (length s) 65535 most, le-leb 1 (length s) some, ne_eqb _ 3 (λ e. h (ev ∙ e)))

      module _ (three : version ≡ 3) (subtype : ℕ) (es : subtype ≡ number_of (take 4 (unpack s))) where
        pub tested-subtype : 2 < subtype → refused 11 0 ≡ lm_tested s
        unfolding lm_tested lm_version lm_subtype
        tested-subtype h = rw (le-leb (length s) 65535 most, le-leb 1 (length s) some, eq-eqb _ 3 (sym ev ∙ three), ← es, lt-leb subtype 2 h)

        pub tested-fine : subtype ≤ 2 → accepted 0 0 0 ≡ lm_tested s
        unfolding lm_tested lm_version lm_subtype
        tested-fine h = rw (le-leb (length s) 65535 most, le-leb 1 (length s) some, eq-eqb _ 3 (sym ev ∙ three), ← es, le-leb subtype 2 h)

-- ── what they leave ──

-- what passed them is at most 65,535 octets and not empty, and has the outcome of the table
pub record Fine (s : List ℕ) (room : ℕ) : Type 0 where
  pub most : length s ≤ 65535
  pub some : 0 < length s
  pub outcome : read_lm_outcome s room ≡ decode (asks lm) s room

pub fine : (s : List ℕ) (room : ℕ) (counts : Counts) → lm_tested s ≡ Ok counts → Fine s room
unfolding lm_tested read_lm_outcome
fine s room counts e =
    let a = answer_if-accepted (leb (length s) 65535) (refusal_at 13 0) _ counts e in
    let b = answer_if-accepted (leb 1 (length s)) (refusal_at 2 0) _ counts a.1 in
    let c = answer_if-accepted (eqb (lm_version s) 3) (refusal_at 10 5) _ counts b.1 in
    let d = answer_if-accepted (leb (lm_subtype s) 2) (refusal_at 11 0) _ counts c.1 in
    record {
      most = leb-true (length s) 65535 a.0;
      some = leb-true 1 (length s) b.0;
      outcome = rw (a.0, b.0, c.0, d.0);
    }

-- what one of them refused has that refusal
pub unfit : (s : List ℕ) (room : ℕ) (refusal : Refusal) → lm_tested s ≡ Err refusal → read_lm_outcome s room ≡ refuse refusal
unfolding lm_tested read_lm_outcome
unfit s room refusal e = go (leb (length s) 65535) (leb 1 (length s)) (eqb (lm_version s) 3) (leb (lm_subtype s) 2) e
  where
    same : (by : Refusal) → ◌≡◌ {A = Answer} (Err by) (Err refusal) → refuse by ≡ refuse refusal
    same by e = let r : by ≡ refusal = cc in ap refuse r

    go : (a b c d : Bool) → answer_if a (refusal_at 13 0) (answer_if b (refusal_at 2 0) (answer_if c (refusal_at 10 5) (answer_if d (refusal_at 11 0) (accepted 0 0 0)))) ≡ Err refusal
        → read_if a (refusal_at 13 0) (read_if b (refusal_at 2 0) (read_if c (refusal_at 10 5) (read_if d (refusal_at 11 0) (decode (asks lm) s room)))) ≡ refuse refusal
    go false b c d e = same (refusal_at 13 0) e
    go true false c d e = same (refusal_at 2 0) e
    go true true false d e = same (refusal_at 10 5) e
    go true true true false e = same (refusal_at 11 0) e
    go true true true true e = let z : ◌≡◌ {A = ℕ} 0 1 = cc in absurd (omega arith)

-- an LM's values fit the room
pub lm_fits : (s : List ℕ) (room : ℕ) → length (read_values (read_lm_outcome s room)) ≤ room
unfolding read_lm_outcome
lm_fits s room = go (leb (length s) 65535) (leb 1 (length s)) (eqb (lm_version s) 3) (leb (lm_subtype s) 2)
  where
    whole : (x : ReadOutcome) → decode (asks lm) s room ≡ x → length (read_values x) ≤ room
    whole (refuse refusal) q = omega arith
    whole (accept vs n) q = decode_fits (asks lm) s room vs n q

    go : (a b c d : Bool) → length (read_values (read_if a (refusal_at 13 0) (read_if b (refusal_at 2 0) (read_if c (refusal_at 10 5) (read_if d (refusal_at 11 0) (decode (asks lm) s room)))))) ≤ room
    go false b c d = omega arith
    go true false c d = omega arith
    go true true false d = omega arith
    go true true true false = omega arith
    go true true true true = whole (decode (asks lm) s room) refl
