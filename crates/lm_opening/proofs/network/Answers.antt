-- `lm_opening::network` meets its contract. The subtype, the flag and the version, each cut out of the octet and kept.
-- Assumes nothing.
use Prim.Native.Nat.{ℕ, ◌+◌, ◌/◌, ◌%◌}
use mathlib.Core.Bool.{Bool, true, false, false≢true}
use mathlib.Core.Path.{◌≡◌, refl, sym, ◌∙◌}
use mathlib.Core.List.{List}
use native.Mathlib.Omega.{arith}
use lib.IntN.{pos}
use lib.ListN.{get_or}
use Rattle.std.proofs.Common.{Ok, Err}
use Rattle.answer.proofs.Exits.{exit}
use Rattle.answer.specs.Numbers.{refusal_at, no_branch}
use Rattle.bits.specs.Access.{place_at}
use Rattle.bits.specs.declared.BitPlace.{BitPlace}
use Rattle.item.specs.Code.{number, index}
use Rattle.item.specs.Answers.{item_at}
use Rattle.read_steps.specs.Reads.{state_at}
use Rattle.read_steps.proofs.Flow.{continues-trans}
use Rattle.read_steps.proofs.Keeping.{Keeping, keeping, item-refused, first_refused, first-kept}
use Rattle.lm_opening.proofs.Branches.{branches_of, flag-width, version-width, network-asks, network-width, network-reserved, original-reserved, NetworkBranch, network-branch}
use Rattle.whole.proofs.Cut.{kept_place}
use Rattle.lm_opening.proofs.FirstOctet.{index-missing, Octet, octet-small, octet_end, octet-after, index_there, index-reserved, number_inside}
use Rattle.lm_opening.proofs.network.Goals as goal
use Rattle.lm_opening.proofs.network.Goals.{After-keep, else-original-via-then-original+else-subtype-eq1, else-original-via-else-original}

-- what stands in the octet
module _ (inner : Bool) {m : List ℕ} {p x : ℕ} {q : BitPlace} (octet : Octet m p x q) where
  subtype-reserved : get_or (branches_of inner) (x / 16) false ≡ false → Err (refusal_at no_branch p) ≡ item_at (index (branches_of inner)) m p
  subtype-reserved = index-reserved octet (branches_of inner) _ 4 4 (network-width inner) (omega arith) refl (omega (arith, octet-small octet))

  subtype-at : get_or (branches_of inner) (x / 16) false ≡ true → Ok (pos (x / 16), place_at (p + 4)) ≡ item_at (index (branches_of inner)) m p
  subtype-at there = index_there octet (branches_of inner) _ 4 4 (network-width inner) (omega arith) refl (omega (arith, octet-small octet)) there refl

  flag-at : {from : ℕ} → from ≡ p + 4 → Ok (pos (x / 8 % 2), place_at (p + 5)) ≡ item_at (number (pos 0) 1) m from
  flag-at starts = number_inside octet 4 1 3 flag-width (omega arith) refl refl (omega arith) starts (omega arith)

  version-at : {from : ℕ} → from ≡ p + 5 → Ok (pos (x % 8), q) ≡ item_at (number (pos 0) 7) m from
  version-at starts = number_inside octet 5 3 0 version-width (omega arith) refl (omega arith) (omega arith) starts (omega (arith, octet_end octet))

-- the branch that the subtype chooses
branch-is : (c : After-keep) → NetworkBranch c.args.original (c.in-Some.octet / 16)
branch-is c =
    network-branch _ _ (omega (arith, c.if-subtype-gt2.false))
    (λ inner one. elim c.else-original.branch [
      | else-original-via-then-original+else-subtype-eq1 w ↦ w.if-subtype-eq1.false one
      | else-original-via-else-original w ↦ false≢true (sym w.if-original.false ∙ inner)
    ])

pub returns-in_default : goal.returns-in_default
returns-in_default c =
    let inner = c.args.original in
    let short = sym c.fetch-f.ensures ∙ c.in_default.is in
    rw c.at_place.ensures
    (item-refused _ _ (network-asks inner) _ refl (index-missing _ (branches_of inner) c.requires.1 short (network-width inner) (omega arith)) refl)

pub returns-then-subtype-gt2 : goal.returns-then-subtype-gt2
returns-then-subtype-gt2 c =
    let inner = c.args.original in
    let octet : Octet c.args.message.now c.args.cursor.place.0 c.in-Some.octet c.in-Some.next = record { fetches = sym c.fetch-f.ensures ∙ c.in-Some.is } in
    let none = network-reserved inner _ c.if-subtype-gt2.true (omega (arith, octet-small octet)) in
    rw c.at_place-then-subtype-gt2.ensures (item-refused _ _ (network-asks inner) _ refl (subtype-reserved inner octet none) refl)

pub returns-then-subtype-eq1 : goal.returns-then-subtype-eq1
returns-then-subtype-eq1 c =
    let inner = c.args.original in
    let octet : Octet c.args.message.now c.args.cursor.place.0 c.in-Some.octet c.in-Some.next = record { fetches = sym c.fetch-f.ensures ∙ c.in-Some.is } in
    let none = original-reserved inner _ c.if-original.true c.if-subtype-eq1.true in
    rw c.at_place-then-subtype-eq1.ensures (item-refused _ _ (network-asks inner) _ refl (subtype-reserved inner octet none) refl)

pub returns-in_err-second : goal.returns-in_err-second
returns-in_err-second c =
    let inner = c.args.original in
    let octet : Octet c.args.message.now c.args.cursor.place.0 c.in-Some.octet c.in-Some.next = record { fetches = sym c.fetch-f.ensures ∙ c.in-Some.is } in
    let branch = branch-is (goal.at.returns-in_err-second c).After-keep in
    rw (exit _ c.from_residual.ensures.1)
    (first_refused _ _ (network-asks inner) (keeping _ refl (subtype-at inner octet branch.there) c.keep.ensures) c.in_err-second.was)

pub returns-in_err-third : goal.returns-in_err-third
returns-in_err-third c =
    let a = c.args in
    let octet : Octet c.args.message.now c.args.cursor.place.0 c.in-Some.octet c.in-Some.next = record { fetches = sym c.fetch-f.ensures ∙ c.in-Some.is } in
    let branch = branch-is (goal.at.returns-in_err-third c).After-keep in
    let subtype-kept : Keeping _ a.message.now a.room (state_at a.cursor a.values.now a.packed.now) _ _ _ _ = keeping _ refl (subtype-at a.original octet branch.there) c.keep.ensures in
    let flag-kept : Keeping _ a.message.now a.room (state_at c.in_ok-second.second _ _) _ _ _ _ = keeping _ refl (flag-at a.original octet (kept_place subtype-kept c.in_ok-second.was)) c.keep-2.ensures in
    rw (exit _ c.from_residual-in_err-third.ensures.1)
    ((first-kept _ _ (network-asks a.original) subtype-kept c.in_ok-second.was).complete _ _ _ (first_refused _ _ branch.asks flag-kept c.in_err-third.was))

pub returns-in_err-end : goal.returns-in_err-end
returns-in_err-end c =
    let a = c.args in
    let octet : Octet c.args.message.now c.args.cursor.place.0 c.in-Some.octet c.in-Some.next = record { fetches = sym c.fetch-f.ensures ∙ c.in-Some.is } in
    let branch = branch-is (goal.at.returns-in_err-end c).After-keep in
    let subtype-kept : Keeping _ a.message.now a.room (state_at a.cursor a.values.now a.packed.now) _ _ _ _ = keeping _ refl (subtype-at a.original octet branch.there) c.keep.ensures in
    let flag-kept : Keeping _ a.message.now a.room (state_at c.in_ok-second.second _ _) _ _ _ _ = keeping _ refl (flag-at a.original octet (kept_place subtype-kept c.in_ok-second.was)) c.keep-2.ensures in
    let version-kept : Keeping _ a.message.now a.room (state_at c.in_ok-third.third _ _) _ _ _ _ = keeping _ refl (version-at a.original octet (kept_place flag-kept c.in_ok-third.was)) c.keep-3.ensures in
    rw (exit _ c.from_residual-in_err-end.ensures.1)
    ((continues-trans (first-kept _ _ (network-asks a.original) subtype-kept c.in_ok-second.was) (first-kept _ _ branch.asks flag-kept c.in_ok-third.was)).complete _ _ _
    (first_refused _ _ refl version-kept c.in_err-end.was))

pub returns : goal.returns
returns c =
    let a = c.args in
    let octet : Octet c.args.message.now c.args.cursor.place.0 c.in-Some.octet c.in-Some.next = record { fetches = sym c.fetch-f.ensures ∙ c.in-Some.is } in
    let branch = branch-is (goal.at.returns c).After-keep in
    let subtype-kept : Keeping _ a.message.now a.room (state_at a.cursor a.values.now a.packed.now) _ _ _ _ = keeping _ refl (subtype-at a.original octet branch.there) c.keep.ensures in
    let flag-kept : Keeping _ a.message.now a.room (state_at c.in_ok-second.second _ _) _ _ _ _ = keeping _ refl (flag-at a.original octet (kept_place subtype-kept c.in_ok-second.was)) c.keep-2.ensures in
    let version-kept : Keeping _ a.message.now a.room (state_at c.in_ok-third.third _ _) _ _ _ _ = keeping _ refl (version-at a.original octet (kept_place flag-kept c.in_ok-third.was)) c.keep-3.ensures in
    rw c.network_kind.ensures (
      continues-trans (first-kept _ _ (network-asks a.original) subtype-kept c.in_ok-second.was)
          (continues-trans (first-kept _ _ branch.asks flag-kept c.in_ok-third.was) (first-kept _ _ refl version-kept c.in_ok-end.was)),
      branch.fewer,
      octet-after octet c.requires.1 (kept_place version-kept c.in_ok-end.was),
    )
