-- The beginning of each kind of row: from the value that was put to what is left.
-- Assumes nothing.
use Prim.Native.Nat.{ℕ, ◌+◌, ◌*◌, ◌/◌, ◌%◌, ◌<◌}
use mathlib.Core.Bool.{Bool, true, false, cond}
use mathlib.Core.Path.{◌≡◌, refl, ap}
use mathlib.Core.Logic.{◌≢◌}
use mathlib.Core.List.{List, ◌∷◌}
use native.Mathlib.Omega.{arith}
use borrow.Author.Tests.{eqb-true}
use lib.Dec.{eqb}
use lib.IntN.{ℤ, pos}
use lib.ListN.{length}
use Rattle.answer.specs.declared.Refusal.{Refusal}
use Rattle.item.specs.Code.{number, natural}
use Rattle.octets.specs.Numbers.{u16}
use Rattle.rules.specs.Rules.{Obeys, Starts, Earlier}
use Rattle.table.proofs.Obeyed.{number-row}
use Rattle.items.specs.Items.{Items, one, times}
use Rattle.encoding.specs.Rows.{presence, items}
use Rattle.encoding.proofs.RowItems.{items-number}
use Rattle.parts.proofs.Records.{presence-always, presence-optional}
use Rattle.write_steps.specs.declared.Cursor.{Cursor}
use Rattle.write_steps.specs.Writes.{Given, Step, State, state_at, Writes, Continues, Gives}
use Rattle.write_steps.proofs.Putting.{Putting, first_missing, first_refused, first_put}
use Rattle.write_begin.specs.Begins.{Begins, Marks}
use Rattle.write_steps.proofs.Flow.{continues-trans, continues_same}
use Rattle.std.proofs.Common.{Ok, Err}
use Rattle.parts.specs.Left.{run_of}
use Rattle.parts.specs.declared.Left.TheVariants.{Run, Numbers}

-- ── rows ──

-- a number row alone is a run of one
pub begins-number : {t : List ℕ} (obeys : Obeys t) {o : ℕ} (starts : Starts t o) → u16 t (o + 2) ≡ 1 → {list : List ℤ} {from : State}
    → Begins t o list (items t o) from from.output (Ok (Numbers 1 o, from.cursor))
unfolding one times
begins-number {t} obeys {o} starts kind =
    let row = number-row obeys starts kind in
    (row.1, continues_same (items-number t o _ _ row.0))

-- so many times an earlier row: numbers, where it is a number row
pub begins-run : {t : List ℕ} (obeys : Obeys t) (o count row : ℕ) → o < length t → Earlier t o row → {list : List ℤ} {p : Items} {from : State} {output : List ℕ}
    {to : Cursor} → Continues list p from (times count (items t row)) (state_at to output) → Begins t o list p from output (Ok (run_of t count row, to))
begins-run {t} obeys o count row inside earlier {list} {p} {from} {output} {to} f = go (eqb (u16 t (row + 2)) 1) refl
  where
    go : (b : Bool) → eqb (u16 t (row + 2)) 1 ≡ b → Begins t o list p from output (Ok (cond b (Numbers count row) (Run count row), to))
    go true e =
        let r = number-row obeys (earlier.0, omega (arith, earlier.1, inside)) (eqb-true _ _ e) in
        (r.1, continues-trans f (continues_same (ap (times count) (items-number t row _ _ r.0))))
    go false e = (earlier, f)

-- ── presence values ──

-- a field that is always there
pub marks-always : (flag mask : ℕ) {list : List ℤ} {from : State} (marked : ℕ) → flag ≡ 0 → marked ≡ mask * 2 + 1
    → Marks flag mask list from from.output (Ok (marked, from.cursor))
marks-always flag mask marked ef em =
    let odd : marked % 2 ≡ 1 = omega arith in
    (omega arith, λ flags k. continues_same (rw odd (presence-always flag flags k ef)))

-- what follows the presence value of an optional field
abbrev marked_rest : List ℕ → (List Bool → Items) → ℤ → Items
marked_rest flags k v = presence flags (λ ps. k (eqb (natural v) 1 ∷ ps))

-- an optional field by its presence value
module _ {flag : ℕ} (optional : flag ≢ 0) {list : List ℤ} {from : State} {output : List ℕ} where
  pub marks-missing : (given : Given) {refusal : Refusal} → Gives list from.cursor.index given → given ≡ Err refusal
      → (flags : List ℕ) (k : List Bool → Items) → Writes list (presence (flag ∷ flags) k) from output (Err refusal)
  marks-missing given g e flags k = first_missing (number (pos 0) 1) (marked_rest flags k) (presence-optional flag flags k optional) given g e

  pub marks-refused : {v : ℤ} {step : Step} {refusal : Refusal} → Putting (number (pos 0) 1) list from output v step → step ≡ Err refusal
      → (flags : List ℕ) (k : List Bool → Items) → Writes list (presence (flag ∷ flags) k) from output (Err refusal)
  marks-refused q e flags k = first_refused (number (pos 0) 1) (marked_rest flags k) (presence-optional flag flags k optional) q e

  pub marks-bit : (mask marked : ℕ) {v : ℤ} {step : Step} {to : Cursor} → Putting (number (pos 0) 1) list from output v step → step ≡ Ok to
      → marked / 2 ≡ mask → eqb (marked % 2) 1 ≡ eqb (natural v) 1 → Marks flag mask list from output (Ok (marked, to))
  marks-bit mask marked q e em eb = (em, λ flags k. rw eb (first_put (number (pos 0) 1) (marked_rest flags k) (presence-optional flag flags k optional) q e))
