-- `lm_fields::hops` meets its contract. Message ID and hop count are cut out of the number that three octets spell.
-- Assumes nothing.
use Prim.Native.Nat.{ℕ, ◌+◌, ◌/◌, ◌%◌}
use mathlib.Core.Path.{◌≡◌, refl, sym, ◌∙◌}
use mathlib.Core.List.{List}
use native.Mathlib.Omega.{arith}
use native.Mathlib.Nat.{add-zero}
use lib.IntN.{pos}
use Rattle.bits.specs.Bits.{width}
use Rattle.bits.specs.Access.{place_at, fetched}
use Rattle.bits.specs.declared.BitPlace.{BitPlace}
use Rattle.bits.proofs.Access.{fetched-Bits}
use Rattle.item.specs.Code.{Code, number}
use Rattle.item.specs.Answers.{item_at}
use Rattle.items.specs.Items.{one}
use Rattle.read_steps.specs.Reads.{state_at}
use Rattle.read_steps.proofs.Keeping.{Keeping, keeping, item-refused, first_refused, first-kept, reads_one}
use Rattle.whole.proofs.Cut.{fetched-small, number-ended, number_behind, short-front, kept_place}
use Rattle.lm_items.specs.Asked.{field_items}
use Rattle.answer.proofs.Exits.{exit}
use Rattle.std.proofs.Common.{Ok, Some}
use Rattle.lm_fields.proofs.hops.Goals as goal

abbrev message_id : Code
message_id = number (pos 0) 4194303

abbrev hop_count : Code
hop_count = number (pos 0) 3

id-width : width 4194303 ≡ 22
unfolding width
id-width = refl

hop-width : width 3 ≡ 2
unfolding width
hop-width = refl

-- the two in the number x of three octets

id-at : (m : List ℕ) (p : ℕ) {x : ℕ} {q : BitPlace} → fetched m p 24 ≡ Some (x, q) → Ok (pos (x / 4), place_at (p + 22)) ≡ item_at message_id m p
id-at m p {x} e =
    let small = fetched-small m p 24 e in
    let cut : x / 4 % 4194304 ≡ x / 4 = omega arith in
    number_behind m p 24 e 0 22 2 id-width (omega arith) refl cut (omega arith) (sym (add-zero p)) (rw (add-zero p))

hop-at : (m : List ℕ) (p from : ℕ) {x : ℕ} {q : BitPlace} → fetched m p 24 ≡ Some (x, q) → from ≡ p + 22 → Ok (pos (x % 4), q) ≡ item_at hop_count m from
hop-at m p from {x} e at =
    let cut : x / 1 % 4 ≡ x % 4 = omega arith in
    number_behind m p 24 e 22 2 0 hop-width (omega arith) refl cut (omega arith) at (omega (arith, (fetched-Bits m p 24 _ _ e).2))

pub returns-in_default : goal.returns-in_default
unfolding field_items one
returns-in_default c =
    let a = c.args in
    let m = a.message.now in
    let p = a.cursor.place.0 in
    let short = short-front m p 3 22 c.requires.1 (sym c.fetch-f.ensures ∙ c.in_default.is) (omega arith) in
    rw c.at_place.ensures
    (item-refused message_id (λ v. one hop_count) refl message_id refl (sym (number-ended m p 22 (omega arith) 4194303 id-width short)) refl)

pub returns-in_err-second : goal.returns-in_err-second
unfolding field_items one
returns-in_err-second c =
    let a = c.args in
    let bits = sym c.fetch-f.ensures ∙ c.in-Some.is in
    rw (exit _ c.from_residual.ensures.1)
    (first_refused message_id (λ v. one hop_count) refl (keeping message_id refl (id-at a.message.now a.cursor.place.0 bits) c.keep.ensures) c.in_err-second.was)

pub returns : goal.returns
unfolding field_items one
returns c =
    let a = c.args in
    let m = a.message.now in
    let p = a.cursor.place.0 in
    let bits = sym c.fetch-f.ensures ∙ c.in-Some.is in
    let id-kept : Keeping message_id m a.room (state_at a.cursor a.values.now a.packed.now) _ _ _ _ = keeping message_id refl (id-at m p bits) c.keep.ensures in
    (first-kept message_id (λ v. one hop_count) refl id-kept c.in_ok-second.was).complete _ _ _
    (reads_one c.keep-2.result (keeping hop_count refl (hop-at m p _ bits (kept_place id-kept c.in_ok-second.was)) c.keep-2.ensures))
