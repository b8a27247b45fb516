-- The tests before an LM's items and values, by themselves: what passes them is accepted and counts nothing.
use Rattle.std.specs.Prelude.{ℕ, List, leb, eqb, ℤ, pos, length, get_or}
use Rattle.bits.specs.Access.{most_octets}
use Rattle.answer.specs.Numbers.{message_ends, wrong_version, wrong_subtype, wrong_value, too_long, refusal_at, accepted, answer_if, Answer}
use Rattle.item.specs.Code.{of_natural}
use Rattle.lm.specs.ByName.{lm_version, lm_subtype}

unfoldable pub lm_tested : List ℕ → Answer
lm_tested s =
    answer_if (leb (length s) most_octets) (refusal_at too_long 0)
    (answer_if (leb 1 (length s)) (refusal_at message_ends 0)
    (answer_if (eqb (lm_version s) 3) (refusal_at wrong_version 5)
    (answer_if (leb (lm_subtype s) 2) (refusal_at wrong_subtype 0)
    (accepted 0 0 0))))

-- the tests before an LM's values, by themselves
unfoldable pub lm_list_tested : List ℤ → Answer
lm_list_tested vs =
    answer_if (leb 3 (length vs)) (refusal_at wrong_value (length vs))
    (answer_if (of_natural (λ n. eqb n 3) (get_or vs 2 (pos 0))) (refusal_at wrong_version 2)
    (answer_if (of_natural (λ n. leb n 2) (get_or vs 0 (pos 0))) (refusal_at wrong_subtype 0)
    (accepted 0 0 0)))
