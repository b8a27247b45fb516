-- Numbers that share the bits of whole octets: each is cut out of the number that all of them spell.
-- Assumes nothing.
use Prim.Native.Nat.{ℕ, zero, suc, ◌+◌, ◌-◌, ◌*◌, ◌/◌, ◌%◌, ◌^◌, ◌≤◌, ◌<◌}
use mathlib.Core.Bool.{Bool, true, false, cond}
use mathlib.Core.Path.{◌≡◌, refl, sym, ap, ◌∙◌, subst}
use mathlib.Core.List.{List}
use native.Mathlib.Omega.{arith}
use native.Mathlib.Nat.{zero-add}
use lib.Dec.{leb}
use lib.IntN.{ℤ, pos}
use lib.ListN.{length, get_or, take, drop, length-drop, take-append-drop}
use lib.Seq.{drop-drop, length-take-le}
use Rattle.answer.specs.Numbers.{refusal_at, message_ends, no_branch, no_room}
use Rattle.bits.specs.Bits.{number_of, bits_of, width, unpack}
use Rattle.bits.specs.Access.{place_at, fetched}
use Rattle.bits.specs.declared.BitPlace.{BitPlace}
use Rattle.bits.proofs.Bits.{number_of_lt, number_of-take_lt, bits_of-number_of, length-unpack}
use Rattle.bits.proofs.Access.{fetched_inside, fetched-Bits, fetched-Short, fetched_past_end}
use Rattle.bits.proofs.Splice.{part-append}
use Rattle.window.proofs.Parts.{number_of-middle}
use Rattle.item.specs.Code.{Code, number, index, index_width}
use Rattle.item.specs.Answers.{item_at}
use Rattle.read_steps.specs.Reads.{State, refused_at, Step}
use Rattle.read_steps.specs.declared.Cursor.{Cursor}
use Rattle.read_steps.proofs.Keeping.{Keeping}
use Rattle.read_item.proofs.Outcomes.{fetched-front, number_short, number_is, index_short, index_is}
use Rattle.std.proofs.Common.{Ok, Err, Some, None}

-- k bits behind s others, with t behind them, in n that spell x
number_cut : (b : List Bool) (n s k t : ℕ) → s + k + t ≡ n → n ≤ length b → number_of (take k (drop s b)) ≡ number_of (take n b) / 2 ^ t % 2 ^ k
number_cut b n s k t e h =
    let front = take n b in
    let l : length front ≡ n = length-take-le n b h in
    let x = number_of front in
    let small : x < 2 ^ (s + k + t) = rw e (subst (λ (i : ℕ). x < 2 ^ i) l (number_of_lt front)) in
    let same : bits_of (s + k + t) x ≡ front = rw e (subst (λ (i : ℕ). bits_of i x ≡ front) l (bits_of-number_of front)) in
    ap (λ c. number_of (take k (drop s c))) (sym (take-append-drop n b)) ∙ ap number_of (part-append front (drop n b) s k (omega arith))
    ∙ ap (λ c. number_of (take k (drop s c))) (sym same) ∙ number_of-middle s k t x small

-- a fetch inside another
pub fetched-cut : (m : List ℕ) (p n s k t : ℕ) {x : ℕ} {q : BitPlace} → fetched m p n ≡ Some (x, q) → s + k + t ≡ n
    → fetched m (p + s) k ≡ Some (x / 2 ^ t % 2 ^ k, place_at (p + s + k))
fetched-cut m p n s k t {x} {q} e split =
    let f = fetched-Bits m p n x q e in
    let b = drop p (unpack m) in
    let long : n ≤ length b = rw (length-drop, length-unpack) (omega arith) in
    let cut : number_of (take k (drop (p + s) (unpack m))) ≡ x / 2 ^ t % 2 ^ k =
    ap (λ (c : List Bool). number_of (take k c)) (sym (drop-drop s p (unpack m))) ∙ number_cut b n s k t split long ∙ ap (λ y. y / 2 ^ t % 2 ^ k) (sym f.1) in
    fetched_inside m (p + s) k (omega arith) ∙ ap (λ y. Some (y, place_at (p + s + k))) cut

-- what a fetch gives fits its bits
pub fetched-small : (m : List ℕ) (p k : ℕ) {x : ℕ} {q : BitPlace} → fetched m p k ≡ Some (x, q) → x < 2 ^ k
fetched-small m p k {x} {q} e = rw (fetched-Bits m p k x q e).1 (number_of-take_lt k k _ (omega arith))

-- ── items of numbers from 0 on, and indices ──

module _ (m : List ℕ) (p k : ℕ) (some : 0 < k) where
  pub number-ended : (span : ℕ) → width span ≡ k → fetched m p k ≡ None → item_at (number (pos 0) span) m p ≡ Err (refusal_at message_ends p)
  number-ended span w e = number_short (pos 0) span (drop p (unpack m)) p (rw w (sym (fetched-front m p k some) ∙ e))

  pub number-fetched : (span : ℕ) → width span ≡ k → {x : ℕ} {q : BitPlace} → fetched m p k ≡ Some (x, q) → x ≤ span → item_at (number (pos 0) span) m p ≡ Ok (pos x, q)
  number-fetched span w {x} {q} e h =
      number_is (pos 0) span (drop p (unpack m)) p (rw w (sym (fetched-front m p k some) ∙ e)) h ∙ ap (λ (n : ℕ). Ok (pos n, q)) (zero-add x)

  pub index-ended : (branches : List Bool) → index_width branches ≡ k → fetched m p k ≡ None → item_at (index branches) m p ≡ Err (refusal_at message_ends p)
  index-ended branches w e = index_short branches (drop p (unpack m)) p (rw w (sym (fetched-front m p k some) ∙ e))

  pub index-fetched : (branches : List Bool) → index_width branches ≡ k → {x : ℕ} {q : BitPlace} → fetched m p k ≡ Some (x, q)
      → item_at (index branches) m p ≡ cond (get_or branches x false) (Ok (pos x, q)) (Err (refusal_at no_branch p))
  index-fetched branches w e = index_is branches (drop p (unpack m)) p (rw w (sym (fetched-front m p k some) ∙ e))

-- the number y in k bits behind s others, with t behind them, in n that spell x
pub number_behind : (m : List ℕ) (p n : ℕ) {x y span from : ℕ} {q place : BitPlace} → fetched m p n ≡ Some (x, q) → (s k t : ℕ) → width span ≡ k → 0 < k → s + k + t ≡ n
    → x / 2 ^ t % 2 ^ k ≡ y → y ≤ span → from ≡ p + s → place.0 ≡ p + s + k → Ok (pos y, place) ≡ item_at (number (pos 0) span) m from
number_behind m p n {span = span} e s k t w some split cut small starts ends =
    rw (starts, ends) (sym (number-fetched m (p + s) k some span w (rw cut at (fetched-cut m p n s k t e split)) small))

-- fewer octets than an item's first bits need
pub short-front : (m : List ℕ) (p n k : ℕ) → p % 8 ≡ 0 → fetched m p (8 * n) ≡ None → 8 * n < k + 8 → fetched m p k ≡ None
short-front m p n k on_octet e close =
    let s = fetched-Short m p (8 * n) e in
    fetched_past_end m p k (omega arith)

-- a number that one octet or two hold
pub width-octets : (n : ℕ) → 1 ≤ n → n ≤ 2 → width (2 ^ (8 * n) - 1) ≡ 8 * n
unfolding width
width-octets zero l h = absurd (omega arith)
width-octets (suc zero) l h = refl
width-octets (suc (suc zero)) l h = refl
width-octets (suc (suc (suc n))) l h = absurd (omega arith)

-- where a value that was kept leaves a reader
pub kept_place : {code : Code} {message : List ℕ} {room : ℕ} {from : State} {values : List ℤ} {packed : List ℕ} {v : ℤ} {next : BitPlace} {step : Step} {to : Cursor}
    → Keeping code message room from values packed (Ok (v, next)) step → step ≡ Ok to → to.place.0 ≡ next.0
kept_place {room = room} {from} {next = next} {to = to} kept e = go (leb room from.cursor.count) (sym kept.moved ∙ e)
  where
    go : (full : Bool) → cond full (refused_at no_room from.cursor.place.0) (Ok (record { place = next; count = from.cursor.count + 1 })) ≡ Ok to → to.place.0 ≡ next.0
    go true e = let z : ◌≡◌ {A = ℕ} 0 1 = cc in absurd (omega arith)
    go false e = let same : record { place = next; count = from.cursor.count + 1 } ≡ to = cc in sym (ap (λ (c : Cursor). c.place.0) same)
