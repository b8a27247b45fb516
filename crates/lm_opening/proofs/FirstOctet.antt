-- The items that share a section's first octet: an index in its first bits, numbers behind it.
-- Assumes nothing.
use Prim.Native.Nat.{ℕ, ◌+◌, ◌/◌, ◌%◌, ◌^◌, ◌≤◌, ◌<◌}
use mathlib.Core.Bool.{Bool, true, false, cond}
use mathlib.Core.Path.{◌≡◌, sym}
use mathlib.Core.List.{List}
use native.Mathlib.Omega.{arith}
use native.Mathlib.Nat.{add-zero}
use lib.IntN.{pos}
use lib.ListN.{get_or}
use Rattle.answer.specs.Numbers.{refusal_at, message_ends, no_branch}
use Rattle.bits.specs.Bits.{width}
use Rattle.bits.specs.Access.{place_at, fetched}
use Rattle.bits.specs.declared.BitPlace.{BitPlace}
use Rattle.bits.proofs.Access.{fetched-Bits}
use Rattle.item.specs.Code.{number, index, index_width}
use Rattle.item.specs.Answers.{item_at}
use Rattle.whole.proofs.Cut.{fetched-cut, fetched-small, number_behind, index-fetched, index-ended, short-front}
use Rattle.std.proofs.Common.{Ok, Err, Some, None}

-- an octet that is not there
pub index-missing : (m : List ℕ) {p k : ℕ} (branches : List Bool) → p % 8 ≡ 0 → fetched m p 8 ≡ None → index_width branches ≡ k → 0 < k
    → Err (refusal_at message_ends p) ≡ item_at (index branches) m p
index-missing m {p} {k} branches on_octet e w some = sym (index-ended m p k some branches w (short-front m p 1 k on_octet e (omega arith)))

-- an octet that is there: the number that it spells, and the place after it
pub record Octet (m : List ℕ) (p x : ℕ) (q : BitPlace) : Type 0 where
  pub fetches : fetched m p 8 ≡ Some (x, q)

module _ {m : List ℕ} {p x : ℕ} {q : BitPlace} (octet : Octet m p x q) where
  pub octet-small : x < 256
  octet-small = fetched-small m p 8 octet.fetches

  pub octet_end : q.0 ≡ p + 8
  octet_end = (fetched-Bits m p 8 x q octet.fetches).2

  pub octet-after : {to : ℕ} → p % 8 ≡ 0 → to ≡ q.0 → to % 8 ≡ 0
  octet-after on_octet e = omega (arith, octet_end)

  -- the index n in its first k bits, with t behind them
  module _ (branches : List Bool) (n k t : ℕ) (w : index_width branches ≡ k) (some : 0 < k) (split : 0 + k + t ≡ 8) (cut : x / 2 ^ t % 2 ^ k ≡ n) where
    index_is : item_at (index branches) m p ≡ cond (get_or branches n false) (Ok (pos n, place_at (p + k))) (Err (refusal_at no_branch p))
    index_is = index-fetched m p k some branches w (rw (add-zero, cut) at (fetched-cut m p 8 0 k t octet.fetches split))

    pub index_there : {place : BitPlace} → get_or branches n false ≡ true → place.0 ≡ p + k → Ok (pos n, place) ≡ item_at (index branches) m p
    index_there there ends = rw (ends, index_is, there)

    pub index-reserved : get_or branches n false ≡ false → Err (refusal_at no_branch p) ≡ item_at (index branches) m p
    index-reserved none = rw (index_is, none)

  -- the number n in k bits behind s others, with t behind them
  pub number_inside : {span n from : ℕ} {place : BitPlace} (s k t : ℕ) → width span ≡ k → 0 < k → s + k + t ≡ 8 → x / 2 ^ t % 2 ^ k ≡ n → n ≤ span
      → from ≡ p + s → place.0 ≡ p + s + k → Ok (pos n, place) ≡ item_at (number (pos 0) span) m from
  number_inside s k t = number_behind m p 8 octet.fetches s k t
