-- `lines::put_values` meets its contract: one value more, a space before it.
use mathlib.Core.Path.{◌≡◌, refl, ap}
use native.Mathlib.Omega.{arith}
use borrow.Author.Rules.{rules}
use lib.ListN.{take, length}
use mir.Syntax.{w64}
use mir.Val.{SFits}
use mir.Facts.{to_z-of_z}
use Rattle.std.proofs.Common.{ℕ, zero, suc, ◌+◌, ◌<◌, List, [], ◌∷◌, append_assoc, append-nil, length-take, map, ℤ, Bor}
use Rattle.std.proofs.lemmas.List.{map-append}
use Rattle.lines.specs.Text.{listed}
use Rattle.lines.proofs.Texts.{put-nothing, put_both, listed_more}
use Rattle.lines.proofs.put_values.Goals as goal

-- the values to come: the next one and the rest, or none
next_of : (n m : ℕ) {v : ℤ} {vs ws : List ℤ} → vs ≡ v ∷ ws → m + 1 ≡ n → take n vs ≡ v ∷ take m ws
next_of n m e k = let s : n ≡ suc m = omega arith in rw (e, s)

none_left : (n : ℕ) (vs : List ℤ) → (0 < n → length vs ≡ 0) → take n vs ≡ []
none_left zero vs h = refl
none_left (suc n) [] h = refl
none_left (suc n) (v ∷ vs) h = let e : length (v ∷ vs) ≡ 0 = h (omega arith) in absurd (omega arith)

-- the values passed
abbrev passed : List (Bor ℤ) → List ℤ
passed = map (λ (x : Bor ℤ). x.now)

pub put_item-next-requires : goal.put_item-next-requires
put_item-next-requires c =
    let steps = c.in-Some.ensures.steps in
    omega (arith, ap length (next_of _ _ steps.0 steps.1), c.loop-value.invariant.room)

pub loop-value-init : goal.loop-value-init
unfolding listed
loop-value-init c =
    let n : c.into_iter-value-iterator.result.n ≡ c.args.count = cc in
    let rest : c.into_iter-value-iterator.result.iter.rest.now ≡ c.args.values.now = cc in
    rw (n, rest) (record { order = refl; room = omega (arith, length-take c.args.count c.args.values.now); put = put-nothing c.args.out.now c.args.at })

pub loop-value-preserved : goal.loop-value-preserved
loop-value-preserved c =
    let i = c.loop-value.invariant in
    let done = c.loop-value.yielded in
    let one = c.in-Some.value in
    let steps = c.in-Some.ensures.steps in
    let next = next_of _ _ steps.0 steps.1 in
    let fits : SFits w64 one.now = search rules in
    let more = map-append (λ (x : Bor ℤ). x.now) done (one ∷ []) in
    record {
      order = rw (more, append_assoc (passed done) (one.now ∷ []) _) (rw next at i.order);
      room = omega (arith, ap length next, i.room, c.put_item-next.ensures.upper_bound);
      put = rw (more, listed_more (passed done) one.now) (rw (to_z-of_z fits) at (put_both i.put c.put_item-next.ensures.appended));
    }

pub returns-clause-appended : goal.returns-clause-appended
returns-clause-appended c =
    let i = c.loop-value.invariant in
    let left = c.loop-value.value-iterator in
    let none = none_left left.n left.iter.rest.now (λ h. (c.in-None.ensures.steps h).0) in
    rw (← i.order, none, append-nil (passed c.loop-value.yielded)) i.put
