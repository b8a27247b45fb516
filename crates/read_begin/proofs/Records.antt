-- A record's fields marked one after another, as the reader goes about them.
-- Assumes nothing.
use Prim.Native.Nat.{ℕ, ◌+◌, ◌*◌, ◌^◌, ◌<◌}
use mathlib.Core.Logic.{◌≢◌}
use mathlib.Core.Path.{◌≡◌, refl}
use mathlib.Core.List.{List}
use lib.IntN.{ℤ}
use Rattle.octets.specs.Numbers.{u16}
use Rattle.guard.specs.Readable.{asks_at, asks_from}
use Rattle.parts.proofs.Records.{left_after, flags_behind, fields_behind, record-flag, record-marked}
use Rattle.read_steps.specs.declared.Cursor.{Cursor}
use Rattle.answer.specs.declared.Refusal.{Refusal}
use Rattle.read_begin.specs.Begins.{Begins, Marks}
use Rattle.read_steps.specs.Reads.{State, state_at, Continues}
use Rattle.read_steps.proofs.Flow.{continues-trans, continues_same}
use Rattle.std.proofs.Common.{Ok, Err}

module _ {message : List ℕ} {room : ℕ} {start here : State} (t : List ℕ) (o i flag mask : ℕ)
    (inside : i < u16 t (o + 4)) (small : mask < 2 ^ i) (is : flag ≡ u16 t (o + 8 + 4 * i))
    (so_far : Continues message room (asks_at t o) start (left_after (asks_from t o) t o i mask) here) where
  -- one field marked
  pub marked_on : (marked : ℕ) (next : Cursor) (values : List ℤ) (packed : List ℕ)
      → Marks flag mask message room here values packed (Ok (marked, next))
      → Continues message room (asks_at t o) start (left_after (asks_from t o) t o (i + 1) marked) (state_at next values packed)
  marked_on marked next values packed m =
      continues-trans so_far
      (continues-trans (continues_same (record-flag (asks_from t o) t o i flag mask inside small is))
      (continues-trans (m.1 (flags_behind (asks_from t o) t o i) (fields_behind (asks_from t o) t o i mask)) (continues_same (record-marked (asks_from t o) t o i mask marked inside small m.0))))

  -- a refusal, which ends the record
  pub mark-refused : (refusal : Refusal) (values : List ℤ) (packed : List ℕ) → Marks flag mask message room here values packed (Err refusal)
      → Begins t o message room (asks_at t o) start values packed (Err refusal)
  mark-refused refusal values packed m =
      (continues-trans so_far (continues_same (record-flag (asks_from t o) t o i flag mask inside small is))).complete values packed _ (m (flags_behind (asks_from t o) t o i) (fields_behind (asks_from t o) t o i mask))
