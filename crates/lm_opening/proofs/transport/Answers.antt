-- `lm_opening::transport` meets its contract. The feature selector and the flag, each cut out of the octet and kept.
-- Assumes nothing.
use Prim.Native.Nat.{ℕ, ◌+◌, ◌/◌, ◌%◌, ◌≤◌}
use mathlib.Core.Path.{◌≡◌, refl, sym, ◌∙◌}
use mathlib.Core.List.{List}
use native.Mathlib.Omega.{arith}
use lib.IntN.{pos}
use Rattle.std.proofs.Common.{Ok}
use Rattle.answer.proofs.Exits.{exit}
use Rattle.bits.specs.Access.{place_at}
use Rattle.bits.specs.declared.BitPlace.{BitPlace}
use Rattle.item.specs.Code.{number, index}
use Rattle.item.specs.Answers.{item_at}
use Rattle.lm_items.specs.Asked.{transport_branches}
use Rattle.read_steps.specs.Reads.{state_at}
use Rattle.read_steps.proofs.Flow.{continues-trans}
use Rattle.read_steps.proofs.Keeping.{Keeping, keeping, item-refused, first_refused, first-kept}
use Rattle.lm_opening.proofs.Branches.{transport-asks, transport-width, transport-reserved, transport-branch, flag-width}
use Rattle.whole.proofs.Cut.{kept_place}
use Rattle.lm_opening.proofs.FirstOctet.{Octet, index-missing, octet-small, octet_end, octet-after, index_there, index-reserved, number_inside}
use Rattle.lm_opening.proofs.transport.Goals as goal

-- what stands in the octet
module _ {m : List ℕ} {p x : ℕ} {q : BitPlace} (octet : Octet m p x q) where
  selector-at : x / 2 ≤ 1 → Ok (pos (x / 2), place_at (p + 7)) ≡ item_at (index transport_branches) m p
  selector-at few = let small = octet-small octet in index_there octet transport_branches _ 7 1 transport-width (omega arith) refl (omega arith) (transport-branch _ few).there refl

  flag-at : {from : ℕ} → from ≡ p + 7 → Ok (pos (x % 2), q) ≡ item_at (number (pos 0) 1) m from
  flag-at starts = number_inside octet 7 1 0 flag-width (omega arith) refl (omega arith) (omega arith) starts (omega (arith, octet_end octet))

pub returns-in_default : goal.returns-in_default
returns-in_default c =
    let short = sym c.fetch-f.ensures ∙ c.in_default.is in
    rw c.at_place.ensures
    (item-refused _ _ transport-asks _ refl (index-missing _ transport_branches c.requires.1 short transport-width (omega arith)) refl)

pub returns-then-selector-gt1 : goal.returns-then-selector-gt1
returns-then-selector-gt1 c =
    let octet : Octet c.args.message.now c.args.cursor.place.0 c.in-Some.octet c.in-Some.next = record { fetches = sym c.fetch-f.ensures ∙ c.in-Some.is } in
    let small = octet-small octet in
    let none = transport-reserved (c.in-Some.octet / 2) c.if-selector-gt1.true (omega arith) in
    rw c.at_place-then-selector-gt1.ensures
    (item-refused _ _ transport-asks
    _ refl (index-reserved octet transport_branches (c.in-Some.octet / 2) 7 1 transport-width (omega arith) refl (omega arith) none) refl)

pub returns-in_err-second : goal.returns-in_err-second
returns-in_err-second c =
    let octet : Octet c.args.message.now c.args.cursor.place.0 c.in-Some.octet c.in-Some.next = record { fetches = sym c.fetch-f.ensures ∙ c.in-Some.is } in
    rw (exit _ c.from_residual.ensures.1)
    (first_refused _ _ transport-asks (keeping _ refl (selector-at octet c.if-selector-gt1.false) c.keep.ensures) c.in_err-second.was)

pub returns-in_err-end : goal.returns-in_err-end
returns-in_err-end c =
    let a = c.args in
    let octet : Octet c.args.message.now c.args.cursor.place.0 c.in-Some.octet c.in-Some.next = record { fetches = sym c.fetch-f.ensures ∙ c.in-Some.is } in
    let selector-kept : Keeping _ a.message.now a.room (state_at a.cursor a.values.now a.packed.now) _ _ _ _ = keeping _ refl (selector-at octet c.if-selector-gt1.false) c.keep.ensures in
    let flag-kept : Keeping _ a.message.now a.room (state_at c.in_ok-second.second _ _) _ _ _ _ = keeping _ refl (flag-at octet (kept_place selector-kept c.in_ok-second.was)) c.keep-2.ensures in
    rw (exit _ c.from_residual-in_err-end.ensures.1)
    ((first-kept _ _ transport-asks selector-kept c.in_ok-second.was).complete _ _ _
    (first_refused _ _ (transport-branch _ c.if-selector-gt1.false).asks flag-kept c.in_err-end.was))

pub returns : goal.returns
returns c =
    let a = c.args in
    let octet : Octet c.args.message.now c.args.cursor.place.0 c.in-Some.octet c.in-Some.next = record { fetches = sym c.fetch-f.ensures ∙ c.in-Some.is } in
    let branch = transport-branch _ c.if-selector-gt1.false in
    let selector-kept : Keeping _ a.message.now a.room (state_at a.cursor a.values.now a.packed.now) _ _ _ _ = keeping _ refl (selector-at octet c.if-selector-gt1.false) c.keep.ensures in
    let flag-kept : Keeping _ a.message.now a.room (state_at c.in_ok-second.second _ _) _ _ _ _ = keeping _ refl (flag-at octet (kept_place selector-kept c.in_ok-second.was)) c.keep-2.ensures in
    rw c.transport_kind.ensures
    (continues-trans (first-kept _ _ transport-asks selector-kept c.in_ok-second.was) (first-kept _ _ branch.asks flag-kept c.in_ok-end.was), branch.fewer, octet-after octet c.requires.1 (kept_place flag-kept c.in_ok-end.was))
