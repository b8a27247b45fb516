-- What the reader of a row knows of it and of the rows that it refers to, under a table that passed and in any state.
-- Assumes nothing.
use Prim.Native.Nat.{ℕ, ◌+◌, ◌≤◌, ◌<◌}
use mathlib.Core.Bool.{Bool, true, false, ◌&&◌, false≢true}
use mathlib.Core.Path.{◌≡◌, refl, sym, ◌∙◌, fun_ext, subst}
use mathlib.Core.List.{List}
use native.Mathlib.Omega.{arith}
use lib.Dec.{leb, eqb}
use lib.ListN.{length}
use borrow.Author.Tests.{leb-true, leb-false, le-leb, lt-leb}
use Rattle.octets.specs.Numbers.{u16, u32, signed, there}
use Rattle.item.specs.Code.{number, variable}
use Rattle.row.specs.Rows.{row_at}
use Rattle.row.specs.Kinds.{is_octets, least_length, may_reserve}
use Rattle.row.proofs.Fits.{number_fits, variable_fits, choice_fits, octets_fits}
use Rattle.row.proofs.Offsets.{earlier_is}
use Rattle.rules.specs.Rules.{Obeys, Starts, references}
use Rattle.table.proofs.Obeyed.{all-at, earlier-starts, row_fits}
use Rattle.items.specs.Items.{stop, one}
use Rattle.encoding.specs.Rows.{octets_within, row_items, items, behind}
use Rattle.encoding.specs.Guarded.{fits, leads, opens, never, from, guarded}
use Rattle.encoding.proofs.RowItems.{items-row, asks-number, asks-variable, asks-octets}
use Rattle.encoding.proofs.Guarded.{fits_row, leads-earlier, leads_fits, there_unreserved, no_choice_unreserved, from_leads, from_stays, guarded-row, guarded_never, opens-each, choice-kind_of}
use Rattle.parts.specs.Parts.{NoChoice, Refers}
use Rattle.parts.proofs.Choices.{refers-earlier}
use Rattle.guard.specs.Readable.{asks_at, asks_from, Readable, Opened, Tested}

-- ── the two kinds of slices ──

module _ (t : List ℕ) (o : ℕ) where
  pub asks-table : length t ≤ 4096 → asks_at t o ≡ items t o
  unfolding asks_at
  asks-table h = rw (le-leb (length t) 4096 h)

  pub asks-state : 4096 < length t → asks_at t o ≡ guarded t o
  unfolding asks_at
  asks-state h = rw (lt-leb (length t) 4096 h)

  from_table : length t ≤ 4096 → asks_from t o ≡ behind t o
  unfolding asks_from
  from_table h = fun_ext (λ r. rw (le-leb (length t) 4096 h))

  from_state : 4096 < length t → asks_from t o ≡ from t o (guarded t)
  unfolding asks_from
  from_state h = fun_ext (λ r. rw (lt-leb (length t) 4096 h))

-- a table or a state
by_length : {A : Type 0} (t : List ℕ) → (length t ≤ 4096 → A) → (4096 < length t → A) → A
by_length {A} t f g = go (leb (length t) 4096) refl
  where
    go : (b : Bool) → leb (length t) 4096 ≡ b → A
    go true e = f (leb-true (length t) 4096 e)
    go false e = g (leb-false (length t) 4096 e)

-- a row of a table that obeys the rules
pub readable-table : {t : List ℕ} {o : ℕ} → Obeys t → Starts t o → Readable t o
readable-table h s = record { row = row_fits h s; table = λ l. (h, s); state = λ l. absurd (omega (arith, h.most)) }

-- a row that fits its state
pub readable-state : (t : List ℕ) (o : ℕ) → 6144 ≤ length t → fits t o ≡ true → Readable t o
readable-state t o l f = record { row = fits_row t o (omega arith) f; table = λ h. absurd (omega arith); state = λ h. (l, f) }

-- ── what is known of the rows that it refers to ──

-- under a table nothing is left to test
pub tested-table : (t : List ℕ) (o : ℕ) → length t ≤ 4096 → Tested true t o
tested-table t o l = record { row = λ e m. absurd (omega arith); state = λ e. absurd (false≢true (sym e)) }

pub tested_by : (t : List ℕ) (o : ℕ) → Tested (leb (length t) 4096) t o
tested_by t o = record { row = λ e m. absurd (omega (arith, leb-true (length t) 4096 e)); state = λ e. leb-false (length t) 4096 e }

-- in a state nothing was tested
pub untested : (t : List ℕ) (o : ℕ) → 4096 < length t → Tested false t o
untested t o l = record { row = λ e m. absurd (false≢true e); state = λ e. l }

-- or the row is no choice, and was
pub tested-open : (t : List ℕ) (o : ℕ) (b : Bool) → 4096 < length t → NoChoice t o → b ≡ opens t o (row_at t o) → Tested b t o
tested-open t o b l n e = record { row = λ k m. (n, sym e ∙ k); state = λ k. l }

-- what choices lead to is the row itself, where it is none
pub tested_on : {b : Bool} {t : List ℕ} {o r : ℕ} → Tested b t o → NoChoice t r → (NoChoice t o → r ≡ o) → Tested b t r
tested_on {t = t} h n same = record {
  row = λ e m. let k = h.row e m in (n, subst (λ (x : ℕ). opens t x (row_at t x) ≡ true) (sym (same k.0)) k.1);
  state = h.state;
}

-- a row whose references were tested
pub tested-opened : {t : List ℕ} {o : ℕ} → Readable t o → Tested true t o → Opened t o
tested-opened h k = record { readable = h; led = λ l. (k.row refl l).1 }

-- ── a row ──

-- what a row asks for, whose references can be read, as far as its kind asks
pub asks-row : {t : List ℕ} {o : ℕ} → Opened t o → asks_at t o ≡ row_items (asks_from t o) (row_at t o)
asks-row {t} {o} h = by_length t
    (λ l. rw (asks-table t o l, from_table t o l) (items-row t o))
    (λ l. rw (asks-state t o l, from_state t o l) (guarded-row t o (h.led l)))

-- a row of a state whose references can't
pub asks_never : (t : List ℕ) (o : ℕ) → 4096 < length t → opens t o (row_at t o) ≡ false → asks_at t o ≡ never
asks_never t o l h = asks-state t o l ∙ guarded_never t o h

-- ── rows that refer to no other ──

module _ {t : List ℕ} {o : ℕ} (h : Readable t o) where
  pub number-asks : u16 t (o + 2) ≡ 1 → asks_at t o ≡ one (number (signed (u32 t (o + 4))) (u32 t (o + 8)))
  unfolding opens
  number-asks k = let f = number_fits h.row k in asks-row (record { readable = h; led = λ l. rw f.0 refl }) ∙ asks-number (asks_from t o) t o _ _ f.0

  pub variable-asks : u16 t (o + 2) ≡ 2 → asks_at t o ≡ one variable
  unfolding opens
  variable-asks k = let f = variable_fits h.row k in asks-row (record { readable = h; led = λ l. rw f refl }) ∙ asks-variable (asks_from t o) t o f

  pub octets-asks : is_octets (u16 t (o + 2)) ≡ true → asks_at t o ≡ octets_within (least_length (u16 t (o + 2))) (u16 t (o + 4))
  unfolding opens
  octets-asks k = let f = octets_fits h.row k in asks-row (record { readable = h; led = λ l. rw f.0 refl }) ∙ asks-octets (asks_from t o) t o _ _ f.0

-- ── the rows that it refers to ──

pub record Reached (t : List ℕ) (o r : ℕ) : Type 0 where
  pub readable : Readable t r
  pub below : r < o
  pub same : asks_from t o r ≡ asks_at t r

-- under a table, of any row
pub reached-table : {t : List ℕ} {o r : ℕ} → Readable t o → length t ≤ 4096 → Refers t o r → Reached t o r
reached-table {t} {o} {r} h l e =
    let k = h.table l in
    let b = refers-earlier k.0 k.1 e in
    record {
      readable = readable-table k.0 (earlier-starts k.1 b);
      below = b.1;
      same = rw (from_table t o l, asks-table t r l) (earlier_is stop o (items t) r b.1);
    }

-- in a state, where the row leads to it
reached-state : {t : List ℕ} {o r : ℕ} → Readable t o → 4096 < length t → may_reserve (u16 t (o + 2)) && eqb r 65535 ≡ false → leads t o r ≡ true → Reached t o r
reached-state {t} {o} {r} h l n led = record {
  readable = readable-state t r (h.state l).0 (leads_fits t o r led);
  below = leads-earlier t o r led;
  same = rw (from_state t o l, asks-state t r l) (from_leads t o (guarded t) r n led);
}

-- of a run or a record
pub reached-opened : {t : List ℕ} {o r : ℕ} → Opened t o → NoChoice t o → Refers t o r → Reached t o r
reached-opened {t} {o} {r} h n e = by_length t
    (λ l. reached-table h.readable l e)
    (λ l. let all = opens-each t o (row_at t o) (λ rs c. n (choice-kind_of t o rs c h.readable.row.known)) (h.led l) in
    reached-state h.readable l (no_choice_unreserved t o r n) (rw e.2 (all-at (λ x. leads t o x ≡ true) (references (row_at t o)) e.0 0 all e.1)))

-- of a choice, in a state
pub reached-led : {t : List ℕ} {o r : ℕ} → Readable t o → 4096 < length t → there r ≡ true → leads t o r ≡ true → Reached t o r
reached-led {t} {o} {r} h l i led = reached-state h l (there_unreserved t o r i) led

pub branch_never : (t : List ℕ) (o r : ℕ) → 4096 < length t → there r ≡ true → leads t o r ≡ false → asks_from t o r ≡ never
branch_never t o r l i apart = rw (from_state t o l) (from_stays t o (guarded t) r (there_unreserved t o r i) apart)

-- a choice is open: its branches are looked at once they are chosen
pub choice-opened : {t : List ℕ} {o : ℕ} → Readable t o → u16 t (o + 2) ≡ 6 → Opened t o
unfolding opens
choice-opened h k = record { readable = h; led = λ l. rw (choice_fits h.row k).is refl }
