-- The outcome of reading through a state, by what the state says of its table.
-- Assumes nothing.
use Prim.Native.Nat.{ℕ, ◌≤◌}
use mathlib.Core.Bool.{Bool, true, false, cond}
use mathlib.Core.Logic.{◌≢◌}
use mathlib.Core.Path.{◌≡◌}
use mathlib.Core.List.{List}
use native.Mathlib.Omega.{arith}
use lib.Dec.{eqb}
use lib.ListN.{length}
use borrow.Author.Tests.{eq-eqb, ne_eqb}
use Rattle.answer.specs.Numbers.{refusal_at, no_table}
use Rattle.items.specs.Reading.{refuse, read_message, read_values}
use Rattle.items.proofs.Messages.{message_fits}
use Rattle.encoding.specs.Guarded.{guarded_root}
use Rattle.loading.specs.State.{held_root, held_outcome, through_state}

module _ (st s : List ℕ) (room : ℕ) where
  pub through_none : held_outcome st ≢ 1 → through_state st s room ≡ refuse (refusal_at no_table 0)
  unfolding through_state
  through_none h = rw (ne_eqb (held_outcome st) 1 h)

  pub through-held : held_outcome st ≡ 1 → through_state st s room ≡ read_message (guarded_root st (held_root st)) s room
  unfolding through_state
  through-held h = rw (eq-eqb (held_outcome st) 1 h)

  -- no more values come back than there is room for
  pub through_fits : length (read_values (through_state st s room)) ≤ room
  unfolding through_state
  through_fits = go (eqb (held_outcome st) 1)
    where
      go : (b : Bool) → length (read_values (cond b (read_message (guarded_root st (held_root st)) s room) (refuse (refusal_at no_table 0)))) ≤ room
      go true = message_fits (guarded_root st (held_root st)) s room
      go false = omega arith
