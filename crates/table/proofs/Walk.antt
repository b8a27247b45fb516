-- The walk over a table's rows, a row at a time: what is known at an offset, of the rows before it and of those that are left.
-- Assumes nothing.
use Prim.Native.Nat.{ℕ, zero, suc, ◌+◌, ◌/◌, ◌%◌, ◌≤◌, ◌<◌}
use mathlib.Core.Path.{◌≡◌, refl, sym, ap, ◌∙◌, subst}
use mathlib.Core.Logic.{◌≢◌}
use mathlib.Core.List.{List}
use native.Mathlib.Omega.{arith}
use lib.ListN.{length, set, replicate, length-set, length-replicate}
use borrow.Author.Tests.{le-leb, lt-leb}
use Rattle.octets.specs.Numbers.{u16}
use Rattle.row.specs.Rows.{row_at}
use Rattle.rules.specs.Rules.{Starts, Part, its_end, its_length, its_references, part_number, Keeps, Obeys, depth}
use Rattle.rules.specs.Tests.{RowVerdict, sound, faulty, row_verdict, row_depth}
use Rattle.answer.specs.Numbers.{reason_number}
use Rattle.answer.specs.declared.Reason.{Reason}
use Rattle.rules.specs.Steps.{spread, told_as, row_tested, part_reason}
use Rattle.table.specs.Faults.{FirstBroken, Fault, in_row}
use Rattle.table.specs.Summary.{rows_from, row_count, depths_from, depths_of}
use Rattle.rules.proofs.Reasons.{reason-part}
use Rattle.rules.proofs.Halves.{length-even, spread-set, spread-zeros}
use Rattle.table.proofs.Decides.{Ready, start, ready_on, row-depth, row-sound, row-faulty, row-four, all_obeys}
use Rattle.std.proofs.Common.{Ok, Err}

-- ── one row ──

-- what a row that passes gives
record Passes (t : List ℕ) (o : ℕ) (d : List ℕ) (l x : ℕ) : Type 0 where
  test : row_verdict t o d ≡ sound
  length_is : l ≡ u16 t o
  depth_is : x ≡ row_depth t o d

sound-passes : (t : List ℕ) (o : ℕ) (d : List ℕ) (l x : ℕ) → row_tested t o d ≡ Ok (l, x) → Passes t o d l x
unfolding row_tested
sound-passes t o d l x e = go (row_verdict t o d) refl e
  where
    go : (v : RowVerdict) → row_verdict t o d ≡ v → told_as v (u16 t o) (row_depth t o d) ≡ Ok (l, x) → Passes t o d l x
    go sound h e =
        let both : ◌≡◌ {A = ℕ × ℕ} (u16 t o, row_depth t o d) (l, x) = cc in
        record { test = h; length_is = sym (ap (λ (p : ℕ × ℕ). p.0) both); depth_is = sym (ap (λ (p : ℕ × ℕ). p.1) both) }
    go (faulty part) h e = absurd (let z : ◌≡◌ {A = ℕ} 0 1 = cc in omega arith)

broken-fails : (t : List ℕ) (o : ℕ) (d : List ℕ) (r : Reason) → row_tested t o d ≡ Err r
    → (part : Part) × (row_verdict t o d ≡ faulty part) × (part_number part ≡ reason_number r)
unfolding row_tested
broken-fails t o d r e = go (row_verdict t o d) refl e
  where
    go : (v : RowVerdict) → row_verdict t o d ≡ v → told_as v (u16 t o) (row_depth t o d) ≡ Err r
        → (part : Part) × (row_verdict t o d ≡ faulty part) × (part_number part ≡ reason_number r)
    go sound h e = absurd (let z : ◌≡◌ {A = ℕ} 0 1 = cc in omega arith)
    go (faulty part) h e = let same : part_reason part ≡ r = cc in (part, h, reason-part part ∙ ap reason_number same)

-- ── the rows so far, and those that are left ──

-- at o, behind so many rows, of which this is the last: h has their depths at half their offsets
pub record Walked (t : List ℕ) (o : ℕ) (h : List ℕ) (rows last : ℕ) : Type 0 where
  pub ready : Ready t o (spread h)
  pub even : o % 2 ≡ 0
  pub sized : length h ≡ 2048
  pub few : rows ≤ o
  pub last_row : o ≢ 0 → Starts t last × (last + u16 t last ≡ o)
  -- the rows from o on, with those so far, are all; there are no more of them than this
  pub more : ℕ
  pub enough : length t ≤ o + more
  pub counted : rows + rows_from more t o ≡ row_count t
  pub kept : depths_from more t o h ≡ depths_of t

pub walk_begins : (t : List ℕ) (h : List ℕ) → h ≡ replicate 2048 0 → Walked t 0 h 0 0
unfolding row_count depths_of
walk_begins t h e = record {
  ready = subst (λ (d : List ℕ). Ready t 0 d) (sym (ap spread e ∙ spread-zeros 2048)) (start t 4096 refl);
  even = refl;
  sized = ap length e ∙ length-replicate {A = ℕ} 2048 0;
  few = omega arith;
  last_row = λ n. absurd (n refl);
  more = length t;
  enough = omega arith;
  counted = omega arith;
  kept = ap (depths_from (length t) t 0) e;
}

-- behind a row at o of a length and a depth
pub record WalkedOn (t : List ℕ) (o : ℕ) (h : List ℕ) (rows l x : ℕ) : Type 0 where
  pub ends : o + l ≤ length t
  pub four : 4 ≤ l
  pub walked : Walked t (o + l) (set h (o / 2) x) (rows + 1) o

module _ {t : List ℕ} {o : ℕ} {h : List ℕ} {rows last : ℕ} (w : Walked t o h rows last) (inside : o < length t) (most : length t ≤ 4096) where
  fuel : (g : ℕ) → length t ≤ o + g → (k : ℕ) × (g ≡ suc k)
  fuel zero h = absurd (omega arith)
  fuel (suc k) h = (k, refl)

  rows_on : (g k : ℕ) → g ≡ suc k → rows_from g t o ≡ suc (rows_from k t (o + u16 t o))
  unfolding rows_from
  rows_on g k e = rw (e, lt-leb (length t) o inside)

  depths_on : (g k : ℕ) → g ≡ suc k → depths_from g t o h ≡ depths_from k t (o + u16 t o) (set h (o / 2) (depth t o))
  unfolding depths_from
  depths_on g k e = rw (e, lt-leb (length t) o inside)

  -- over a row that keeps the rules
  pub walk_on : ((q : Part) → Keeps t o q) → Walked t (o + u16 t o) (set h (o / 2) (row_depth t o (spread h))) (rows + 1) o
  walk_on k =
      let d = row_depth t o (spread h) in
      let m = fuel w.more w.enough in
      let four = row-four (all_obeys k) in
      record {
        ready = subst (λ (d : List ℕ). Ready t (o + u16 t o) d) (sym (spread-set h o d w.even)) (ready_on t most o (spread h) w.ready inside k);
        even = omega (arith, w.even, k its_length, length-even (row_at t o));
        sized = length-set h (o / 2) d ∙ w.sized;
        few = omega (arith, w.few);
        last_row = λ n. ((w.ready.reached, inside), refl);
        more = m.0;
        enough = omega (arith, w.enough, m.1);
        counted = omega (arith, w.counted, rows_on w.more m.0 m.1);
        kept =
            ap (λ x. depths_from m.0 t (o + u16 t o) (set h (o / 2) x)) (row-depth w.ready.depths (k its_references))
            ∙ sym (depths_on w.more m.0 m.1)
            ∙ w.kept;
      }

  -- over one that the test passes
  pub row-passed : (l x : ℕ) → row_tested t o (spread h) ≡ Ok (l, x) → WalkedOn t o h rows l x
  row-passed l x e =
      let p = sound-passes t o (spread h) l x e in
      let k = row-sound w.ready.depths p.test in
      record {
        ends = omega (arith, (k its_end).1, p.length_is);
        four = omega (arith, row-four (all_obeys k), p.length_is);
        walked = rw (p.length_is, p.depth_is) (walk_on k);
      }

  -- one that it refuses
  pub row-refused : 4 ≤ length t → (r : Reason) → row_tested t o (spread h) ≡ Err r → Fault t (reason_number r) o
  row-refused least r e =
      let f = broken-fails t o (spread h) r e in
      let x = row-faulty w.ready.depths f.0 f.1 in
      let first : FirstBroken t o f.0 = record { starts = (w.ready.reached, inside); rows_before = w.ready.rows; parts_before = x.0; breaks = x.1 } in
      rw (← f.2) (in_row least most first)

-- ── the end ──

module _ {t h : List ℕ} {rows last : ℕ} (w : Walked t (length t) h rows last) where
  no_rows : (g : ℕ) → rows_from g t (length t) ≡ 0
  unfolding rows_from
  no_rows zero = refl
  no_rows (suc g) = rw (le-leb (length t) (length t) (omega arith))

  no_depths : (g : ℕ) → depths_from g t (length t) h ≡ h
  unfolding depths_from
  no_depths zero = refl
  no_depths (suc g) = rw (le-leb (length t) (length t) (omega arith))

  pub all_counted : rows ≡ row_count t
  all_counted = omega (arith, w.counted, no_rows w.more)

  pub all_kept : h ≡ depths_of t
  all_kept = sym (no_depths w.more) ∙ w.kept

  pub all_obeyed : 4 ≤ length t → length t ≤ 4096 → Obeys t
  all_obeyed least most = record {
    least = least;
    most = most;
    filled = w.ready.reached;
    rows = λ o s. all_obeys (w.ready.rows o s s.1);
  }
