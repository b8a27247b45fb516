-- `userdata::user_data_place` meets its contract. By the answer, and by the count of the headers' values.
-- Assumes nothing.
use Prim.Native.Nat.{◌-◌}
use mathlib.Core.Path.{◌≡◌, sym, ap, ◌∙◌}
use native.Mathlib.Omega.{arith}
use lib.ListN.{length}
use Rattle.std.proofs.Common.{Ok}
use Rattle.answer.proofs.Exits.{exit}
use Rattle.userdata.proofs.Outcome.{accepted-placed, refused-placed}
use Rattle.userdata.proofs.user_data_place.Goals as goal

pub returns-in_err-counts : goal.returns-in_err-counts
returns-in_err-counts c =
    exit _ c.from_residual.ensures.1 ∙ refused-placed c.args.message.now _ (sym c.lm_message.ensures.0 ∙ c.in_err-counts.was)

-- past a refusal: where the user data stands, by the counts

pub header_values-requires : goal.header_values-requires
header_values-requires c = (accepted-placed _ _ (sym c.lm_message.ensures.0 ∙ c.in_ok-counts.was)).most

pub overflow_sub-length : goal.overflow_sub-length
overflow_sub-length c = omega (arith, (accepted-placed _ _ (sym c.lm_message.ensures.0 ∙ c.in_ok-counts.was)).count)

pub overflow_sub-length-2 : goal.overflow_sub-length-2
overflow_sub-length-2 c = omega (arith, (accepted-placed _ _ (sym c.lm_message.ensures.0 ∙ c.in_ok-counts.was)).count)

pub overflow_sub-start : goal.overflow_sub-start
overflow_sub-start c =
    let p = accepted-placed _ _ (sym c.lm_message.ensures.0 ∙ c.in_ok-counts.was) in
    omega (arith, p.count, p.within)

pub returns : goal.returns
returns c =
    let s = c.args.message.now in
    let p = accepted-placed s _ (sym c.lm_message.ensures.0 ∙ c.in_ok-counts.was) in
    let k : c.in_ok-counts.counts.values - c.header_values.result - 1 ≡ p.size = omega (arith, p.count) in
    ap (λ k. Ok (record { start = record { 0 = length s - k }; length = record { 0 = k } })) k ∙ sym p.found
