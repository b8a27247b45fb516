-- How many rows are visited: as many as stand before the first item, and so many again for each value that is passed.
-- Assumes nothing.
use Prim.Native.Nat.{ℕ, zero, suc, ◌+◌, ◌-◌, ◌*◌, ◌≤◌, min}
use mathlib.Core.Bool.{Bool, true, false, cond, ◌&&◌}
use mathlib.Core.Path.{sym, subst}
use mathlib.Core.List.{List, [], ◌∷◌}
use native.Mathlib.Omega.{arith}
use lib.Dec.{leb}
use lib.IntN.{ℤ, pos}
use lib.ListN.{length}
use Rattle.bits.specs.Bits.{unpack}
use Rattle.bits.specs.Access.{most_octets}
use Rattle.item.specs.Code.{Got, got, bad, allows, value_bits, decode_item}
use Rattle.rules.specs.Rules.{depth, Starts, Obeys}
use Rattle.table.specs.Root.{root}
use Rattle.table.proofs.LastRow.{root_is}
use Rattle.items.specs.Items.{Items, ask, Allows}
use Rattle.visits.specs.Visits.{marked, unmarked, once_read, read_visits, once_written, write_visits, Visits}
use Rattle.visits.proofs.Unmarked.{unmarked_is}
use Rattle.visits.proofs.Spaced.{Spaced, ends, marks, asks, spaced}

module _ {d : ℕ} where
  -- n marks at most before the first value, and d more for each that is passed
  read-bound : {e : Bool} {n : ℕ} {p : Items} → Spaced d e n p → (b : List Bool) (room : ℕ) → read_visits p b room ≤ n + d * room
  read-bound ends b room = omega arith
  read-bound (marks m s) b room = rw m (omega (arith, read-bound s b room))
  read-bound (asks {e} {n} {c} {k} m s) b room = rw m (go (decode_item c b) room (λ v b' room'. read-bound (s v) b' room'))
    where
      go : (x : Got ℤ) (room : ℕ) → ((v : ℤ) (b : List Bool) (room : ℕ) → read_visits (k v) b room ≤ d + d * room)
          → once_read x room (λ v b' room'. read_visits (k v) b' room') ≤ n + d * room
      go (bad x) room ih = omega arith
      go (got v b) zero ih = omega arith
      go (got v b) (suc room) ih = omega (arith, ih v b room)

  write-bound : {e : Bool} {n : ℕ} {p : Items} → Spaced d e n p → (vs : List ℤ) (room : ℕ) → write_visits p vs room ≤ n + d * length vs
  write-bound ends vs room = omega arith
  write-bound (marks m s) vs room = rw m (omega (arith, write-bound s vs room))
  write-bound (asks {e} {n} {c} {k} m s) vs room = rw m (go vs (λ v vs' room'. write-bound (s v) vs' room'))
    where
      may : (x : Bool) (y z : ℕ) → y ≤ z → cond x y 0 ≤ z
      may true y z h = h
      may false y z h = omega arith

      go : (vs : List ℤ) → ((v : ℤ) (vs : List ℤ) (room : ℕ) → write_visits (k v) vs room ≤ d + d * length vs)
          → once_written c vs room (λ v vs' room'. write_visits (k v) vs' room') ≤ n + d * length vs
      go [] ih = omega arith
      go (v ∷ vs) ih = may (allows c v && leb (length (value_bits c v)) room) _ _ (omega (arith, ih v vs (room - length (value_bits c v))))

  -- where items may not end at the start, a list of no values is not what they ask for
  asks_some : {n : ℕ} {p : Items} → Spaced d false n p → (vs : List ℤ) → Allows (unmarked p) vs → 1 ≤ length vs
  asks_some (marks {e} {n} {c} {k} m s) vs a =
      asks_some s vs (subst (λ (x : Bool). Allows (cond x (unmarked (k (pos 0))) (ask c (λ v. unmarked (k v)))) vs) m a)
  asks_some (asks {e} {n} {c} {k} m s) [] a =
      absurd (subst (λ (x : Bool). Allows (cond x (unmarked (k (pos 0))) (ask c (λ v. unmarked (k v)))) []) m a)
  asks_some (asks m s) (v ∷ vs) a = omega arith

module _ (t : List ℕ) where
  -- a row with its own depth, before its first item and behind one
  own : Obeys t → (o : ℕ) → Starts t o → Spaced (depth t o) false (depth t o) (marked t o)
  own h o s = spaced t h o s (depth t o) (depth t o) (omega arith) (omega arith)

  -- and the root with the most that there is
  most : Obeys t → Spaced 32 false 32 (marked t (root t))
  most h =
      let s = (root_is t h).starts in
      let l = (h.rows (root t) s).depth_within in
      spaced t h (root t) s 32 32 l l

  pub visits : Visits t
  visits = record {
    same = unmarked_is t;
    some = λ h o s vs a. asks_some (own h o s) vs (subst (λ p. Allows p vs) (sym (unmarked_is t h o s)) a);
    read_from = λ h o s b room. omega (arith, read-bound (own h o s) b room);
    written_from = λ h o s vs room. omega (arith, write-bound (own h o s) vs room);
    reading = λ h s room. omega (arith, read-bound (most h) (unpack s) room);
    writing = λ h vs cap. omega (arith, write-bound (most h) vs (8 * min cap most_octets));
  }
