-- What the states hold, octet by octet: a fresh one, and one that a table with its depths, its count of rows and its root was stored in
-- (document 02, ticket 3).
-- Assumes nothing.
use Prim.Native.Nat.{ℕ, zero, suc, ◌+◌, ◌-◌, ◌≤◌, ◌<◌}
use mathlib.Core.Bool.{Bool, true, false}
use mathlib.Core.Path.{◌≡◌, refl, sym, ap, ◌∙◌}
use mathlib.Core.List.{List, [], ◌++◌, append_assoc}
use native.Mathlib.Omega.{arith}
use lib.Dec.{leb}
use lib.ListN.{length, get_or, take, replicate, length-append, length-replicate, get_or-append, get_or-eq_default}
use lib.Seq.{take_at, get_or-append-add}
use borrow.Author.Tests.{leb-true, leb-false}
use Rattle.octets.specs.Numbers.{u16}
use Rattle.items.specs.Slices.{filled}
use Rattle.items.proofs.Filled.{filled_up}
use Rattle.loading.specs.State.{fresh, numbers_of, state_with, held_length, held_rows, held_root, held_outcome, held_table}

-- ── a fresh state ──

same_at : (z n i : ℕ) → get_or (replicate n z) i z ≡ z
same_at z zero i = refl
same_at z (suc n) zero = refl
same_at z (suc n) (suc i) = same_at z n i

pub fresh_at : (i : ℕ) → get_or fresh i 0 ≡ 0
unfolding fresh
fresh_at = same_at 0 6160

pub length-fresh : length fresh ≡ 6160
unfolding fresh
length-fresh = length-replicate {A = ℕ} 6160 0

u16-fresh : (o : ℕ) → u16 fresh o ≡ 0
unfolding u16
u16-fresh o = omega (arith, fresh_at o, fresh_at (o + 1))

pub fresh-length : held_length fresh ≡ 0
unfolding held_length
fresh-length = u16-fresh 6144

pub fresh-rows : held_rows fresh ≡ 0
unfolding held_rows
fresh-rows = u16-fresh 6146

pub fresh-root : held_root fresh ≡ 0
unfolding held_root
fresh-root = u16-fresh 6148

pub fresh-outcome : held_outcome fresh ≡ 0
unfolding held_outcome
fresh-outcome = fresh_at 6150

pub fresh-table : held_table fresh ≡ []
unfolding held_table
fresh-table = ap (λ (n : ℕ). take n fresh) fresh-length

-- ── a state that a table was stored in ──

-- the octets of a part behind another
behind : (p q : List ℕ) (n i : ℕ) → length p ≡ n → get_or (p ++ q) (n + i) 0 ≡ get_or q i 0
behind p q n i e = ap (λ (k : ℕ). get_or (p ++ q) (k + i) 0) (sym e) ∙ get_or-append-add p q i 0

-- what a state has of a table, depths, a count of rows and a root
pub record Stored (st t d : List ℕ) (rows root : ℕ) : Type 0 where
  pub size : length st ≡ 6160
  pub octets : (i : ℕ) → i < 4096 → get_or st i 0 ≡ get_or t i 0
  pub depths : (i : ℕ) → i < 2048 → get_or st (4096 + i) 0 ≡ get_or d i 0
  pub length_is : held_length st ≡ length t
  pub rows_are : held_rows st ≡ rows
  pub root_is : held_root st ≡ root
  pub outcome : held_outcome st ≡ 1
  pub table_is : held_table st ≡ t

module _ (t d : List ℕ) (rows root : ℕ) (most : length t ≤ 4096) (sized : length d ≡ 2048) (counted : rows < 65536) (rooted : root < 65536) where
  length_front : length (filled 0 4096 t) ≡ 4096
  length_front = filled_up.whole 0 4096 t most

  length-stored : length (state_with t d rows root) ≡ 6160
  unfolding state_with
  length-stored =
      let last = numbers_of (length t) rows root in
      omega (arith, length-append (filled 0 4096 t) (d ++ last), length-append d last, length_front)

  octet_at : (i : ℕ) → i < 4096 → get_or (state_with t d rows root) i 0 ≡ get_or t i 0
  unfolding state_with
  octet_at i h =
      get_or-append (filled 0 4096 t) (d ++ numbers_of (length t) rows root) 0 i (omega (arith, length_front)) ∙ go (leb (length t) i) refl
    where
      go : (b : Bool) → leb (length t) i ≡ b → get_or (filled 0 4096 t) i 0 ≡ get_or t i 0
      go true e = let l = leb-true (length t) i e in filled_up.rest 0 0 4096 t i l h ∙ sym (get_or-eq_default t 0 l)
      go false e = get_or-append t (replicate (4096 - length t) 0) 0 i (leb-false (length t) i e)

  depth_at : (i : ℕ) → i < 2048 → get_or (state_with t d rows root) (4096 + i) 0 ≡ get_or d i 0
  unfolding state_with
  depth_at i h =
      let last = numbers_of (length t) rows root in
      behind (filled 0 4096 t) (d ++ last) 4096 i length_front ∙ get_or-append d last 0 i (omega arith)

  number_at : (i : ℕ) → get_or (state_with t d rows root) (6144 + i) 0 ≡ get_or (numbers_of (length t) rows root) i 0
  unfolding state_with
  number_at i =
      let last = numbers_of (length t) rows root in
      let e : 6144 + i ≡ 4096 + (2048 + i) = omega arith in
      ap (λ (k : ℕ). get_or (filled 0 4096 t ++ (d ++ last)) k 0) e
      ∙ behind (filled 0 4096 t) (d ++ last) 4096 (2048 + i) length_front
      ∙ behind d last 2048 i sized

  length-held : held_length (state_with t d rows root) ≡ length t
  unfolding held_length u16
  length-held = omega (arith, number_at 0, number_at 1)

  rows-held : held_rows (state_with t d rows root) ≡ rows
  unfolding held_rows u16
  rows-held = omega (arith, number_at 2, number_at 3)

  root-held : held_root (state_with t d rows root) ≡ root
  unfolding held_root u16
  root-held = omega (arith, number_at 4, number_at 5)

  outcome-held : held_outcome (state_with t d rows root) ≡ 1
  unfolding held_outcome
  outcome-held = number_at 6

  in_front : take (length t) (state_with t d rows root) ≡ t
  unfolding state_with
  in_front = rw append_assoc (take_at t (replicate (4096 - length t) 0 ++ (d ++ numbers_of (length t) rows root)) (length t) refl)

  table-held : held_table (state_with t d rows root) ≡ t
  unfolding held_table
  table-held = ap (λ (n : ℕ). take n (state_with t d rows root)) length-held ∙ in_front

  pub stored : Stored (state_with t d rows root) t d rows root
  stored = record {
    size = length-stored;
    octets = octet_at;
    depths = depth_at;
    length_is = length-held;
    rows_are = rows-held;
    root_is = root-held;
    outcome = outcome-held;
    table_is = table-held;
  }
