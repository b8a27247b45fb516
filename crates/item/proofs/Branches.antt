-- Laws of the branches of a choice, whose references stand in a table.
use Prim.Native.Nat.{ℕ, ◌+◌, ◌*◌, ◌≤◌, ◌<◌}
use mathlib.Core.Bool.{false, not}
use mathlib.Core.Path.{◌≡◌, ap, ◌∙◌}
use mathlib.Core.List.{List}
use lib.Dec.{eqb}
use lib.ListN.{length, get_or, length-map, get_or-map, get_or-eq_default}
use Rattle.octets.specs.Numbers.{u16, u16s, there}
use Rattle.octets.proofs.Numbers.{length-u16s, get_d_u16s}
use Rattle.item.specs.Answers.{branches_at}

module _ (t : List ℕ) (from m : ℕ) where
  pub length-branches : length (branches_at t from m) ≡ m
  length-branches = length-map (u16s t from 2 m) there ∙ length-u16s t 2 from m

  pub branch_past : (i : ℕ) → m ≤ i → get_or (branches_at t from m) i false ≡ false
  branch_past i h = get_or-eq_default (branches_at t from m) false (rw length-branches h)

  -- false stands for a reserved branch, which 65535 is
  pub branch_is : (i : ℕ) → i < m → get_or (branches_at t from m) i false ≡ not (eqb (u16 t (from + 2 * i)) 65535)
  unfolding there
  branch_is i h =
      get_or-map there (u16s t from 2 m) i 65535
      ∙ ap there (get_d_u16s t 2 from m i 65535 h)
