-- After any sequence of loads and reads a state is fresh or that of the last table that passed the check, so that what it holds is what
-- is worked out from its octets, and reading through it is reading with the table in hand (document 02, ticket 3; specs/Sequence.antt).
-- Assumes nothing.
use Prim.Native.Nat.{ℕ, zero, suc, ◌+◌, ◌/◌, ◌≤◌}
use mathlib.Core.Bool.{Bool, true, false, cond}
use mathlib.Core.Path.{◌≡◌, refl, sym, ap, ◌∙◌, subst}
use mathlib.Core.Logic.{◌≢◌, ◌⊎◌, inl, inr}
use mathlib.Core.List.{List, [], ◌∷◌, ◌++◌}
use native.Mathlib.Omega.{arith}
use lib.Dec.{leb, eqb}
use lib.ListN.{length, get_or-eq_default}
use borrow.Author.Tests.{eq-eqb, ne_eqb}
use Rattle.octets.specs.Numbers.{u16}
use Rattle.answer.specs.Numbers.{refusal_at, no_table}
use Rattle.answer.specs.declared.Refusal.{Refusal}
use Rattle.rules.specs.Rules.{Obeys}
use Rattle.table.specs.Verdict.{Verdict, passed, broken, verdict}
use Rattle.table.specs.Root.{root_from, root}
use Rattle.table.specs.Summary.{rows_from, row_count, depths_of, Summarised}
use Rattle.table.proofs.Decides.{passes-exactly}
use Rattle.table.proofs.LastRow.{root_is}
use Rattle.table.proofs.Summary.{summaries}
use Rattle.items.specs.Items.{Items}
use Rattle.items.specs.Reading.{refuse, read_message}
use Rattle.items.specs.Numbered.{of_reading}
use Rattle.items.proofs.Numbered.{reading-numbered}
use Rattle.encoding.specs.Rows.{asks}
use Rattle.encoding.specs.Reading.{read_outcome}
use Rattle.encoding.specs.Guarded.{held_depth, guarded_root, HoldsTable}
use Rattle.encoding.proofs.Guarded.{sound}
use Rattle.loading.specs.State.{fresh, state_of, held_root, held_outcome, outcome_of, loaded_by, through_state}
use Rattle.loading.specs.Sequence.{Call, load, read, after, Last, none, last, later_or, if_passed, last_loaded, Afresh, Loaded, NoTable, AfterCalls, Sequences, AnyStates}
use Rattle.loading.proofs.Held.{fresh_at, length-fresh, fresh-length, fresh-rows, fresh-root, fresh-outcome, fresh-table, Stored, stored}
use Rattle.loading.proofs.Loads.{loaded-passed, loaded-broken}

-- ── any octets as a state ──

module _ (st : List ℕ) where
  no_table_first_lem : held_outcome st ≢ 1 → (s : List ℕ) (room : ℕ) → through_state st s room ≡ refuse (refusal_at no_table 0)
  unfolding through_state
  no_table_first_lem n s room = rw (ne_eqb (held_outcome st) 1 n)

  numbered-any : (s : List ℕ) (room number place : ℕ) → through_state st s room ≡ refuse (refusal_at number place)
      → ((number ≡ no_table) × (place ≡ 0)) ⊎ (of_reading number ≡ true)
  unfolding through_state
  numbered-any s room number place = go (eqb (held_outcome st) 1)
    where
      items : Items
      items = guarded_root st (held_root st)

      go : (b : Bool) → cond b (read_message items s room) (refuse (refusal_at no_table 0)) ≡ refuse (refusal_at number place)
          → ((number ≡ no_table) × (place ≡ 0)) ⊎ (of_reading number ≡ true)
      go true e = inr (reading-numbered.numbered items s room number place e)
      go false e =
          let same : refusal_at no_table 0 ≡ refusal_at number place = cc in
          inl (sym (ap (λ (r : Refusal). r.number) same), sym (ap (λ (r : Refusal). r.place) same))

pub any-states : AnyStates
any-states = record { each = λ st. record { no_table_first = no_table_first_lem st; numbered = numbered-any st } }

-- ── a state that no table was loaded into ──

no_rows : row_count [] ≡ 0
unfolding row_count rows_from
no_rows = refl

no_root : root [] ≡ 0
unfolding root root_from
no_root = refl

refused-empty : outcome_of (verdict []) ≡ 0
unfolding verdict
refused-empty = refl

afresh-fresh : Afresh fresh
unfolding held_depth
afresh-fresh = record {
  size = length-fresh;
  outcome = fresh-outcome ∙ sym (ap (λ t. outcome_of (verdict t)) fresh-table ∙ refused-empty);
  octets = fresh-length ∙ sym (ap length fresh-table);
  rows = fresh-rows ∙ sym (ap row_count fresh-table ∙ no_rows);
  root_row = fresh-root ∙ sym (ap root fresh-table ∙ no_root);
  depths = λ o s. absurd (omega (arith, s.1, ap length fresh-table));
  elsewhere = λ i h n. fresh_at (4096 + i);
  behind = λ i l h. fresh_at i;
}

no_table_lem : NoTable fresh
no_table_lem = record { is = refl; reads = no_table_first_lem fresh (λ e. omega (arith, fresh-outcome)) }

-- ── a state that a table was loaded into ──

rows_from_lem : (f : ℕ) (t : List ℕ) (o : ℕ) → rows_from f t o ≤ f
unfolding rows_from
rows_from_lem zero t o = omega arith
rows_from_lem (suc f) t o = go (leb (length t) o) (rows_from_lem f t (o + u16 t o))
  where
    go : (b : Bool) → rows_from f t (o + u16 t o) ≤ f → cond b 0 (suc (rows_from f t (o + u16 t o))) ≤ suc f
    go true h = omega arith
    go false h = omega arith

row-count-most : (t : List ℕ) → row_count t ≤ length t
unfolding row_count
row-count-most t = rows_from_lem (length t) t 0

module _ (t : List ℕ) (y : Obeys t) where
  kept : Summarised t
  kept = summaries.each t y

  held : Stored (state_of t) t (depths_of t) (row_count t) (root t)
  unfolding state_of
  held =
      stored t (depths_of t) (row_count t) (root t) y.most kept.size
      (omega (arith, row-count-most t, y.most)) (omega (arith, (root_is t y).starts.1, y.most))

  -- the state has the table and the depths
  pub holds-table : HoldsTable (state_of t) t
  unfolding held_depth
  holds-table = record {
    octets = held.octets;
    depths = λ o s. held.depths (o / 2) (omega (arith, s.1, y.most)) ∙ kept.depths o s;
  }

  afresh-loaded : Afresh (state_of t)
  afresh-loaded = record {
    size = held.size;
    outcome = rw (held.table_is, (passes-exactly t).1 y) held.outcome;
    octets = rw held.table_is held.length_is;
    rows = rw held.table_is held.rows_are;
    root_row = rw held.table_is held.root_is;
    depths = rw held.table_is holds-table.depths;
    elsewhere = rw held.table_is (λ i h n. held.depths i h ∙ kept.elsewhere i n);
    behind = rw held.table_is (λ i l h. held.octets i h ∙ get_or-eq_default t 0 l);
  }

  -- its rows ask for what the table does
  asks_same : guarded_root (state_of t) (held_root (state_of t)) ≡ asks t
  unfolding asks
  asks_same = rw held.root_is (sound.sound (state_of t) t y holds-table (root t) (root_is t y).starts)

  reads_same : (s : List ℕ) (room : ℕ) → through_state (state_of t) s room ≡ read_outcome t s room
  unfolding through_state read_outcome
  reads_same s room = rw (eq-eqb (held_outcome (state_of t)) 1 held.outcome, (passes-exactly t).1 y, asks_same)

  loaded-state : Loaded (state_of t) t
  loaded-state = record { octets = held.table_is; obeys = y; passes = held.outcome; reads = reads_same }

-- ── sequences ──

-- what a state comes to, by the last table that was loaded
abbrev Leave : List ℕ → List ℕ → Last → Type 0
Leave st st' none = st' ≡ st
Leave st st' (last t) = (st' ≡ state_of t) × (verdict t ≡ passed)

leave : (calls : List Call) (st : List ℕ) → Leave st (after st calls) (last_loaded calls)
leave [] st = refl
leave (read s room ∷ calls) st = leave calls st
leave (load t ∷ calls) st = later (last_loaded calls) (leave calls (loaded_by st t))
  where
    st' : List ℕ
    st' = after (loaded_by st t) calls

    tried : (v : Verdict) → verdict t ≡ v → st' ≡ loaded_by st t → Leave st st' (if_passed v t)
    tried passed h e = (e ∙ loaded-passed st t h, h)
    tried (broken refusal) h e = e ∙ loaded-broken st t refusal h

    later : (l : Last) → Leave (loaded_by st t) st' l → Leave st st' (later_or l (if_passed (verdict t) t))
    later none e = tried (verdict t) refl e
    later (last u) e = e

after_more : (calls more : List Call) (st : List ℕ) → after st (calls ++ more) ≡ after (after st calls) more
after_more [] more st = refl
after_more (load t ∷ calls) more st = after_more calls more (loaded_by st t)
after_more (read s room ∷ calls) more st = after_more calls more st

module _ (calls : List Call) where
  after_none : last_loaded calls ≡ none → after fresh calls ≡ fresh
  after_none e = subst (λ (l : Last). Leave fresh (after fresh calls) l) e (leave calls fresh)

  after_last : (t : List ℕ) → last_loaded calls ≡ last t → (after fresh calls ≡ state_of t) × (verdict t ≡ passed)
  after_last t e = subst (λ (l : Last). Leave fresh (after fresh calls) l) e (leave calls fresh)

  afresh : Afresh (after fresh calls)
  afresh = go (last_loaded calls) (leave calls fresh)
    where
      go : (l : Last) → Leave fresh (after fresh calls) l → Afresh (after fresh calls)
      go none e = rw e afresh-fresh
      go (last t) e = rw e.0 (afresh-loaded t ((passes-exactly t).0 e.1))

  refused_kept : (t : List ℕ) → (Obeys t → ⊥) → loaded_by (after fresh calls) t ≡ after fresh calls
  refused_kept t n = go (verdict t) refl
    where
      go : (v : Verdict) → verdict t ≡ v → loaded_by (after fresh calls) t ≡ after fresh calls
      go passed h = absurd (n ((passes-exactly t).0 h))
      go (broken refusal) h = loaded-broken (after fresh calls) t refusal h

  after_calls : AfterCalls calls
  after_calls = record {
    afresh = afresh;
    before = λ e. rw (after_none e) no_table_lem;
    loaded = λ t e. let h = after_last t e in rw h.0 (loaded-state t ((passes-exactly t).0 h.1));
    replaced = λ t y. after_more calls (load t ∷ []) fresh ∙ loaded-passed (after fresh calls) t ((passes-exactly t).1 y);
    refused = λ t n. after_more calls (load t ∷ []) fresh ∙ refused_kept t n;
    kept = λ s room. after_more calls (read s room ∷ []) fresh;
  }

pub sequences : Sequences
sequences = record { each = after_calls }
