-- The beginning of each kind of row: from the item that was read and kept to what is left.
-- Assumes nothing.
use Prim.Native.Nat.{ℕ, ◌+◌, ◌*◌, ◌/◌, ◌%◌}
use mathlib.Core.Bool.{Bool, true, false, cond}
use mathlib.Core.Logic.{◌≢◌}
use mathlib.Core.Path.{◌≡◌, refl, sym, ap, ◌∙◌}
use mathlib.Core.List.{List, [], ◌∷◌}
use native.Mathlib.Omega.{arith}
use borrow.Author.Tests.{eqb-true, le-leb}
use lib.Dec.{eqb}
use lib.IntN.{ℤ, pos}
use lib.ListN.{length, drop}
use Rattle.bits.specs.Bits.{unpack, width}
use Rattle.answer.specs.Numbers.{no_branch, refusal_at}
use Rattle.answer.specs.declared.Refusal.{Refusal}
use Rattle.item.specs.Code.{number, index, natural}
use Rattle.item.specs.Answers.{item_at, Item}
use Rattle.octets.specs.Numbers.{u16}
use Rattle.row.proofs.Fits.{number_fits, fixed_fits, counted_fits}
use Rattle.rules.specs.Rules.{references}
use Rattle.items.specs.Items.{Items, one, times}
use Rattle.encoding.specs.Rows.{presence}
use Rattle.encoding.specs.Guarded.{never}
use Rattle.parts.specs.Parts.{NoChoice}
use Rattle.guard.specs.Readable.{asks_at, asks_from, Readable, Opened}
use Rattle.guard.proofs.Readable.{Reached, number-asks, reached-opened}
use Rattle.parts.proofs.Records.{presence-always, presence-optional}
use Rattle.read_steps.specs.declared.Cursor.{Cursor}
use Rattle.read_steps.specs.Reads.{Step, State, state_at, Reads, Continues}
use Rattle.read_steps.proofs.Keeping.{Keeping, first_refused, first-kept}
use Rattle.parts.specs.Left.{run_of}
use Rattle.read_begin.specs.Begins.{Begins, Marks}
use Rattle.read_steps.proofs.Flow.{value_of, continues-trans, continues_same, refused-item}
use Rattle.std.proofs.Common.{Ok, Err}
use Rattle.parts.specs.declared.Left.TheVariants.{Nothing, Run, Numbers, Fields}

-- ── rows ──

-- a number row alone is a run of one
pub begins-number : {t : List ℕ} {o : ℕ} → Readable t o → u16 t (o + 2) ≡ 1 → {message : List ℕ} {room : ℕ} {from : State}
    → Begins t o message room (asks_at t o) from from.values from.packed (Ok (Numbers 1 o, from.cursor))
unfolding one times
begins-number h kind = ((number_fits h.row kind).1, continues_same (number-asks h kind))

-- so many times an earlier row: numbers, where it is a number row
pub begins-run : {t : List ℕ} (o count row : ℕ) → Reached t o row → {message : List ℕ} {room : ℕ} {p : Items} {from : State} {values : List ℤ}
    {packed : List ℕ} {to : Cursor} → Continues message room p from (times count (asks_from t o row)) (state_at to values packed)
    → Begins t o message room p from values packed (Ok (run_of t count row, to))
begins-run {t} o count row reached {message} {room} {p} {from} {values} {packed} {to} f = go (eqb (u16 t (row + 2)) 1) refl
  where
    go : (b : Bool) → eqb (u16 t (row + 2)) 1 ≡ b → Begins t o message room p from values packed (Ok (cond b (Numbers count row) (Run count row), to))
    go true e =
        let k = eqb-true _ _ e in
        ((number_fits reached.readable.row k).1, continues-trans f (continues_same (ap (times count) (reached.same ∙ number-asks reached.readable k))))
    go false e = (reached.readable, reached.below, continues-trans f (continues_same (ap (times count) reached.same)))

-- ── runs, and a row that can't be read ──

-- a run refers to one row
module _ {t : List ℕ} {o : ℕ} (h : Opened t o) where
  pub fixed-reached : u16 t (o + 2) ≡ 3 → NoChoice t o → Reached t o (u16 t (o + 6))
  unfolding references
  fixed-reached k n = reached-opened h n (rw (fixed_fits h.readable.row k).0 (0, omega arith, refl))

  pub counted-reached : u16 t (o + 2) ≡ 4 → NoChoice t o → Reached t o (u16 t (o + 6))
  unfolding references
  counted-reached k n = reached-opened h n (rw (counted_fits h.readable.row k).0 (0, omega arith, refl))

-- no bits meet an index of no branch
never_item : (message : List ℕ) (place : ℕ) → item_at (index []) message place ≡ Err (refusal_at no_branch place)
unfolding width
never_item message place = rw (le-leb 0 (length (drop place (unpack message))) (omega arith))

pub never_reads : {message : List ℕ} {room : ℕ} (a : State) {values : List ℤ} {packed : List ℕ} → Reads message room never a values packed (Err (refusal_at no_branch a.cursor.place.0))
unfolding one
never_reads {message} a = refused-item (index []) _ (sym (never_item message a.cursor.place.0)) refl

-- ── presence bits ──

-- a field that is always there
pub marks-always : (flag mask : ℕ) {message : List ℕ} {room : ℕ} {from : State} (marked : ℕ) → flag ≡ 0 → marked ≡ mask * 2 + 1
    → Marks flag mask message room from from.values from.packed (Ok (marked, from.cursor))
marks-always flag mask marked ef em =
    let odd : marked % 2 ≡ 1 = omega arith in
    (omega arith, λ flags k. continues_same (rw odd (presence-always flag flags k ef)))

-- what follows the presence bit of an optional field
abbrev pub marked_rest : List ℕ → (List Bool → Items) → ℤ → Items
marked_rest flags k v = presence flags (λ ps. k (eqb (natural v) 1 ∷ ps))

-- an optional field by its presence bit
module _ {flag : ℕ} (optional : flag ≢ 0) {message : List ℕ} {room : ℕ} {from : State} {values : List ℤ} {packed : List ℕ} {item : Item} {step : Step}
    (q : Keeping (number (pos 0) 1) message room from values packed item step) where
  pub marks-refused : {refusal : Refusal} → step ≡ Err refusal
      → (flags : List ℕ) (k : List Bool → Items) → Reads message room (presence (flag ∷ flags) k) from values packed (Err refusal)
  marks-refused e flags k = first_refused (number (pos 0) 1) (marked_rest flags k) (presence-optional flag flags k optional) q e

  pub marks-bit : (mask marked : ℕ) {next : Cursor} → step ≡ Ok next → marked / 2 ≡ mask → eqb (marked % 2) 1 ≡ eqb (natural (value_of item)) 1
      → Marks flag mask message room from values packed (Ok (marked, next))
  marks-bit mask marked e em eb = (em, λ flags k. rw eb (first-kept (number (pos 0) 1) (marked_rest flags k) (presence-optional flag flags k optional) q e))
