-- A record's fields marked one after another, as the writer goes about them.
-- Assumes nothing.
use Prim.Native.Nat.{ℕ, ◌+◌, ◌*◌, ◌^◌, ◌<◌}
use mathlib.Core.Path.{◌≡◌}
use mathlib.Core.List.{List}
use lib.IntN.{ℤ}
use Rattle.answer.specs.declared.Refusal.{Refusal}
use Rattle.octets.specs.Numbers.{u16}
use Rattle.encoding.specs.Rows.{items}
use Rattle.parts.proofs.Records.{left_after, flags_behind, fields_behind, record-flag, record-marked}
use Rattle.write_steps.specs.declared.Cursor.{Cursor}
use Rattle.write_begin.specs.Begins.{Marks}
use Rattle.write_steps.specs.Writes.{State, state_at, Writes, Continues}
use Rattle.write_steps.proofs.Flow.{continues-trans, continues_same}
use Rattle.std.proofs.Common.{Ok, Err}

module _ {list : List ℤ} {start here : State} (t : List ℕ) (o i flag mask : ℕ)
    (l : i < u16 t (o + 4)) (small : mask < 2 ^ i) (ef : flag ≡ u16 t (o + 8 + 4 * i)) (f : Continues list (items t o) start (left_after (items t) t o i mask) here) where
  -- one field marked
  pub marked_on : (marked : ℕ) (next : Cursor) (output : List ℕ) → Marks flag mask list here output (Ok (marked, next))
      → Continues list (items t o) start (left_after (items t) t o (i + 1) marked) (state_at next output)
  marked_on marked next output m =
      continues-trans f
      (continues-trans (continues_same (record-flag (items t) t o i flag mask l small ef))
      (continues-trans (m.1 (flags_behind (items t) t o i) (fields_behind (items t) t o i mask)) (continues_same (record-marked (items t) t o i mask marked l small m.0))))

  -- one field refused
  pub mark-refused : (refusal : Refusal) (output : List ℕ) → Marks flag mask list here output (Err refusal) → Writes list (items t o) start output (Err refusal)
  mark-refused refusal output m =
      (continues-trans f (continues_same (record-flag (items t) t o i flag mask l small ef))).complete output _ (m (flags_behind (items t) t o i) (fields_behind (items t) t o i mask))
