-- The loops over the flags and over the references of a row, a turn at a time.
-- Assumes nothing.
use Prim.Native.Nat.{ℕ, suc, ◌+◌, ◌-◌, ◌*◌, ◌≤◌, ◌<◌, max}
use mathlib.Core.Bool.{Bool, true, false, cond, not, ◌&&◌, false≢true}
use mathlib.Core.Path.{◌≡◌, refl, sym, ap, ap₂, ◌∙◌}
use mathlib.Core.Logic.{◌≢◌}
use mathlib.Core.List.{List, [], ◌∷◌}
use native.Mathlib.Omega.{arith}
use native.Mathlib.Nat.{mul-le-mul_left}
use native.Mathlib.Decide.{ℕ_discrete}
use lib.Dec.{eqb}
use borrow.Author.Tests.{le-leb, lt-leb, ne_eqb}
use Rattle.octets.specs.Numbers.{u16, u16s, there}
use Rattle.rules.specs.Rules.{flags_in_bounds, branches, deepest}
use Rattle.rules.specs.Tests.{depth_in}
use Rattle.rules.specs.Steps.{kept, deepest_from}
use Rattle.row.proofs.Bools.{cond_same}
use Rattle.std.proofs.Common.{Some, None}

-- the numbers as a loop begins with them
pub u16s_whole : (t : List ℕ) (step o n : ℕ) → u16s t o step n ≡ u16s t (o + step * 0) step (n - 0)
u16s_whole t step o n =
    let at : o ≡ o + step * 0 = omega arith in
    let left : n ≡ n - 0 = omega arith in
    ap₂ (λ (p m : ℕ). u16s t p step m) at left

-- the first of those left at a turn, and the others
u16s_first : (t : List ℕ) (step o n i : ℕ) → i < n → u16s t (o + step * i) step (n - i) ≡ u16 t (o + step * i) ∷ u16s t (o + step * (i + 1)) step (n - (i + 1))
unfolding u16s
u16s_first t step o n i h =
    let left : n - i ≡ suc (n - (i + 1)) = omega arith in
    let next : o + step * i + step ≡ o + step * (i + 1) = omega arith in
    rw left (ap (λ (p : ℕ). u16 t (o + step * i) ∷ u16s t p step (n - (i + 1))) next)

-- the last octet of the one at a turn
pub step_inside : (step n i : ℕ) → i < n → 2 ≤ step → step * i + 2 ≤ step * n
step_inside step n i h two =
    let most = mul-le-mul_left {m = i + 1} {n = n} step (omega arith) in
    omega (arith, most)

module _ (t : List ℕ) (o n i : ℕ) (more : i < n) where
  pub flag-wrong : 1 < u16 t (o + 4 * i) → flags_in_bounds (u16s t (o + 4 * i) 4 (n - i)) ≡ false
  unfolding flags_in_bounds
  flag-wrong h = rw (u16s_first t 4 o n i, lt-leb (u16 t (o + 4 * i)) 1 h)

  pub flag-right : u16 t (o + 4 * i) ≤ 1 → flags_in_bounds (u16s t (o + 4 * i) 4 (n - i)) ≡ flags_in_bounds (u16s t (o + 4 * (i + 1)) 4 (n - (i + 1)))
  unfolding flags_in_bounds
  flag-right h = rw (u16s_first t 4 o n i, le-leb (u16 t (o + 4 * i)) 1 h)

-- ── references ──

module _ (d : List ℕ) where
  pub deepest_none : (depth : ℕ) → deepest_from d depth [] ≡ Some depth
  unfolding deepest_from
  deepest_none depth = let e : max depth 0 ≡ depth = omega arith in rw e

  -- one reference, kept
  pub deepest_one : (depth r : ℕ) → depth_in d r ≢ 0 → deepest_from d depth (r ∷ []) ≡ Some (max depth (depth_in d r))
  unfolding deepest_from
  deepest_one depth r h = let e : max (depth_in d r) 0 ≡ depth_in d r = omega arith in rw (ne_eqb (depth_in d r) 0 h, e)

  -- the reference in front, and the others
  pub deepest-front : (depth r : ℕ) (rs : List ℕ) → depth_in d r ≢ 0 → deepest_from d depth (r ∷ rs) ≡ deepest_from d (max depth (depth_in d r)) rs
  unfolding deepest_from
  deepest-front depth r rs h =
      let e : max depth (max (depth_in d r) (deepest (depth_in d) rs)) ≡ max (max depth (depth_in d r)) (deepest (depth_in d) rs) = omega arith in
      rw (ne_eqb (depth_in d r) 0 h, e)

  pub deepest-stray : (depth r : ℕ) (rs : List ℕ) → depth_in d r ≡ 0 → deepest_from d depth (r ∷ rs) ≡ None
  unfolding deepest_from
  deepest-stray depth r rs h = rw h

module _ (reserved : Bool) (r : ℕ) where
  -- a reserved branch is dropped
  pub kept_reserved : (rs : List ℕ) → reserved && eqb r 65535 ≡ true → kept reserved (r ∷ rs) ≡ kept reserved rs
  unfolding kept branches there
  kept_reserved rs h = go reserved (eqb r 65535) h
    where
      go : (b x : Bool) → b && x ≡ true → cond b (cond (not x) (r ∷ branches rs) (branches rs)) (r ∷ rs) ≡ cond b (branches rs) rs
      go true true h = refl
      go true false h = absurd (false≢true h)
      go false x h = absurd (false≢true h)

  -- any other reference is kept
  pub kept_there : (rs : List ℕ) → reserved && eqb r 65535 ≡ false → kept reserved (r ∷ rs) ≡ r ∷ kept reserved rs
  unfolding kept branches there
  kept_there rs h = go reserved (eqb r 65535) h
    where
      go : (b x : Bool) → b && x ≡ false → cond b (cond (not x) (r ∷ branches rs) (branches rs)) (r ∷ rs) ≡ r ∷ cond b (branches rs) rs
      go true true h = absurd (false≢true (sym h))
      go true false h = refl
      go false x h = refl

  kept_none : kept reserved [] ≡ []
  unfolding kept branches
  kept_none = cond_same reserved []

  -- what one reference gives
  pub one_reserved : (d : List ℕ) (depth : ℕ) → reserved && eqb r 65535 ≡ true → deepest_from d depth (kept reserved (r ∷ [])) ≡ Some depth
  one_reserved d depth q = ap (deepest_from d depth) (kept_reserved [] q ∙ kept_none) ∙ deepest_none d depth

  module _ (d : List ℕ) (depth : ℕ) (q : reserved && eqb r 65535 ≡ false) where
    one_kept : deepest_from d depth (kept reserved (r ∷ [])) ≡ deepest_from d depth (r ∷ [])
    one_kept = ap (deepest_from d depth) (kept_there [] q ∙ ap (λ rs. r ∷ rs) kept_none)

    pub one_stray : depth_in d r ≡ 0 → deepest_from d depth (kept reserved (r ∷ [])) ≡ None
    one_stray h = one_kept ∙ deepest-stray d depth r [] h

    pub one_deeper : depth_in d r ≢ 0 → deepest_from d depth (kept reserved (r ∷ [])) ≡ Some (max depth (depth_in d r))
    one_deeper h = one_kept ∙ deepest_one d depth r h

  module _ (d : List ℕ) (depth : ℕ) (rs : List ℕ) where
    -- a turn: on from the depth so far
    pub deepest_next : (x : ℕ) → deepest_from d depth (kept reserved (r ∷ [])) ≡ Some x
        → deepest_from d depth (kept reserved (r ∷ rs)) ≡ deepest_from d x (kept reserved rs)
    deepest_next x e = go (reserved && eqb r 65535) refl (ℕ_discrete (depth_in d r) 0)
      where
        go : (b : Bool) → reserved && eqb r 65535 ≡ b → Dec (depth_in d r ≡ 0) → deepest_from d depth (kept reserved (r ∷ rs)) ≡ deepest_from d x (kept reserved rs)
        go true q z =
            let g : depth ≡ x = cc (one_reserved d depth q) in
            rw (kept_reserved rs q, g)
        go false q (yes z) = absurd (let y : ◌≡◌ {A = ℕ} 0 1 = cc (one_stray d depth q z) in omega arith)
        go false q (no n) =
            let g : max depth (depth_in d r) ≡ x = cc (one_deeper d depth q n) in
            rw (kept_there rs q) (deepest-front d depth r (kept reserved rs) n ∙ ap (λ x. deepest_from d x (kept reserved rs)) g)

    -- a turn that ends it
    pub deepest-stop : deepest_from d depth (kept reserved (r ∷ [])) ≡ None → deepest_from d depth (kept reserved (r ∷ rs)) ≡ None
    deepest-stop e = go (reserved && eqb r 65535) refl (ℕ_discrete (depth_in d r) 0)
      where
        go : (b : Bool) → reserved && eqb r 65535 ≡ b → Dec (depth_in d r ≡ 0) → deepest_from d depth (kept reserved (r ∷ rs)) ≡ None
        go true q z = absurd (let y : ◌≡◌ {A = ℕ} 0 1 = cc (one_reserved d depth q) in omega arith)
        go false q (yes z) = rw (kept_there rs q) (deepest-stray d depth r (kept reserved rs) z)
        go false q (no n) = absurd (let y : ◌≡◌ {A = ℕ} 0 1 = cc (one_deeper d depth q n) in omega arith)

-- the loop, a turn at a time
module _ (d : List ℕ) (depth : ℕ) (reserved : Bool) (t : List ℕ) (step o n i r : ℕ) (more : i < n) (read : r ≡ u16 t (o + step * i)) where
  others : List ℕ
  others = u16s t (o + step * (i + 1)) step (n - (i + 1))

  front : u16s t (o + step * i) step (n - i) ≡ r ∷ others
  unfolding others
  front = u16s_first t step o n i more ∙ ap (λ r. r ∷ others) (sym read)

  pub references_next : (x : ℕ) → deepest_from d depth (kept reserved (r ∷ [])) ≡ Some x
      → deepest_from d depth (kept reserved (u16s t (o + step * i) step (n - i))) ≡ deepest_from d x (kept reserved (u16s t (o + step * (i + 1)) step (n - (i + 1))))
  unfolding others
  references_next x e = rw front (deepest_next reserved r d depth others x e)

  pub references-stop : deepest_from d depth (kept reserved (r ∷ [])) ≡ None → deepest_from d depth (kept reserved (u16s t (o + step * i) step (n - i))) ≡ None
  references-stop e = rw front (deepest-stop reserved r d depth others e)

pub references_end : (d : List ℕ) (depth : ℕ) (reserved : Bool) (t : List ℕ) (step o n : ℕ) → n ≡ 0 → deepest_from d depth (kept reserved (u16s t o step n)) ≡ Some depth
unfolding u16s
references_end d depth reserved t step o n z = rw (z, kept_none reserved 0) (deepest_none d depth)
