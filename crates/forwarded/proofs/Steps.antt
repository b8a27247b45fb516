-- One step in propositions: which messages go on, what changes in one, and what changes in the list.
use Prim.Native.Nat.{ℕ, ◌+◌, ◌*◌, ◌-◌, ◌≤◌, ◌<◌}
use native.Mathlib.Omega.{arith}
use mathlib.Core.Bool.{Bool, true, false, not, true≢false}
use mathlib.Core.Logic.{◌≢◌}
use mathlib.Core.Path.{◌≡◌, refl, sym, ◌∙◌, ap, subst}
use mathlib.Core.List.{List, ◌++◌, append_assoc}
use lib.Dec.{leb, ltb, eqb}
use lib.ListN.{length, get_or, take, drop, set, length-append, length-set, take-append-drop}
use lib.Seq.{length-take-le, take_all, drop_at, get_or-take, get_or-drop, get_or-set_same, get_or-set_other}
use borrow.Author.Tests.{leb-true, leb-false, ltb-true, ltb-false, eqb-true, le-leb, lt-ltb, eq-eqb, not-true, not-false}
use Rattle.bits.specs.Bits.{number_of, bits_of, unpack, pack}
use Rattle.bits.proofs.Bits.{length-bits_of, length-unpack, unpack-append, length-pack, unpack-pack, pack-octets, number_of-bits_of, number_of-take_lt}
use Rattle.bits.proofs.Splice.{spliced, length-spliced, take-spliced, part_spliced, part-append}
use Rattle.answer.specs.Numbers.{refusal_at, accepted, Answer}
use Rattle.answer.proofs.Numbers.{answer_if-accepted}
use Rattle.seen.specs.declared.Seen.{Seen}
use Rattle.seen.specs.Records.{live_at, holds, first_free, record_of, blank}
use Rattle.forward.specs.Forward.{field, version, subtype, message_id, hop_count, lowered, forward_answer, seen_by, seen_after, output_by}
use Rattle.forwarded.specs.Steps.{Live, at, Passes, Stored, Steps}
use Rattle.forwarded.proofs.Records.{live_is, is_live, not_live, live_not, first_passes, before_first, some_first, holds_at, holds_from}
use Rattle.std.proofs.Common.{Ok, Err}

-- ── the list ──

-- the first record that isn't live
abbrev free : ℕ → Seen → Bool
free t r = not (live_at t r)

pub free_not_live : (t : ℕ) (rs : List Seen) → first_free t rs < length rs → Live t (at rs (first_free t rs)) → ⊥
free_not_live t rs l = not_live t (at rs (first_free t rs)) (not-true (live_at t (at rs (first_free t rs))) (first_passes (free t) rs l))

stored_at : (id t : ℕ) (rs : List Seen) → first_free t rs < length rs → Stored id t rs (set rs (first_free t rs) (record_of id t))
stored_at id t rs l = record {
  index = first_free t rs;
  inside = l;
  was_free = free_not_live t rs l;
  first = λ i h. live_is t (at rs i) (not-false (live_at t (at rs i)) (before_first (free t) rs i h));
  stored = get_or-set_same rs (first_free t rs) (record_of id t) blank l;
  others = λ i h. get_or-set_other rs (first_free t rs) i (record_of id t) blank h;
  count = length-set rs (first_free t rs) (record_of id t);
}

-- no live record has an ID
unheld : (id t : ℕ) (rs : List Seen) → ((i : ℕ) → i < length rs → Live t (at rs i) → (at rs i).id ≢ id) → holds id t rs ≡ false
unheld id t rs f = go (holds id t rs) refl
  where
    go : (b : Bool) → holds id t rs ≡ b → b ≡ false
    go true e = let x = holds_from id t rs e in absurd (f x.0 x.1 (live_is t (at rs x.0) x.2) x.3)
    go false e = refl

-- ── which messages go on ──

module _ (m : List ℕ) (t : ℕ) (rs : List Seen) (cap : ℕ) where
  passes : forward_answer m t rs cap ≡ accepted 0 0 (length m) → Passes m t rs cap
  unfolding forward_answer
  passes e =
      let most = answer_if-accepted (leb (length m) 65535) (refusal_at 13 0) _ _ e in
      let long = answer_if-accepted (leb 4 (length m)) (refusal_at 2 0) _ _ most.1 in
      let three = answer_if-accepted (eqb (version m) 3) (refusal_at 10 5) _ _ long.1 in
      let two = answer_if-accepted (eqb (subtype m) 2) (refusal_at 11 0) _ _ three.1 in
      let hops = answer_if-accepted (leb 1 (hop_count m)) (refusal_at 40 30) _ _ two.1 in
      let unseen = answer_if-accepted (not (holds (message_id m) t rs)) (refusal_at 41 8) _ _ hops.1 in
      let some = answer_if-accepted (ltb (first_free t rs) (length rs)) (refusal_at 42 0) _ _ unseen.1 in
      let fits = answer_if-accepted (leb (length m) cap) (refusal_at 8 0) _ _ some.1 in
      let l = ltb-true (first_free t rs) (length rs) some.0 in
      record {
        head = record {
          most = leb-true (length m) 65535 most.0;
          long = leb-true 4 (length m) long.0;
          three = eqb-true (version m) 3 three.0;
          two = eqb-true (subtype m) 2 two.0;
          hops = leb-true 1 (hop_count m) hops.0;
        };
        unseen = λ i h live same. true≢false (sym (holds_at (message_id m) t rs i h (is_live t (at rs i) live) same) ∙ not-true (holds (message_id m) t rs) unseen.0);
        free = (first_free t rs, l, free_not_live t rs l);
        fits = leb-true (length m) cap fits.0;
      }

  module _ (p : Passes m t rs cap) where
    free_inside : first_free t rs < length rs
    free_inside = let x = p.free in some_first (free t) rs x.0 x.1 (ap not (live_not t (at rs x.0) x.2))

    goes_on : forward_answer m t rs cap ≡ accepted 0 0 (length m)
    unfolding forward_answer
    goes_on =
        rw (
          le-leb (length m) 65535 p.head.most,
          le-leb 4 (length m) p.head.long,
          eq-eqb (version m) 3 p.head.three,
          eq-eqb (subtype m) 2 p.head.two,
          le-leb 1 (hop_count m) p.head.hops,
          unheld (message_id m) t rs p.unseen,
          lt-ltb (first_free t rs) (length rs) free_inside,
          le-leb (length m) cap p.fits,
        )

    seen-is : seen_after m t rs cap ≡ set rs (first_free t rs) (record_of (message_id m) t)
    seen-is = ap (λ (x : Answer). seen_by x m t rs) goes_on

-- ── what is looked at of a message ──

-- a field that ends in the fourth octet is one of the first four
field-four : (p k : ℕ) (m : List ℕ) → p + k ≤ 32 → field p k m ≡ field p k (take 4 m)
field-four p k m h = go (leb 4 (length m)) refl
  where
    go : (b : Bool) → leb 4 (length m) ≡ b → field p k m ≡ field p k (take 4 m)
    go true e =
        let four : length (unpack (take 4 m)) ≡ 32 = length-unpack (take 4 m) ∙ ap (λ (n : ℕ). 8 * n) (length-take-le 4 m (leb-true 4 (length m) e)) in
        let parts : unpack m ≡ unpack (take 4 m) ++ unpack (drop 4 m) = ap unpack (sym (take-append-drop 4 m)) ∙ unpack-append (take 4 m) (drop 4 m) in
        ap (λ (b : List Bool). number_of (take k (drop p b))) parts ∙ ap number_of (part-append (unpack (take 4 m)) (unpack (drop 4 m)) p k (rw four h))
    go false e = let short : length m ≤ 4 = omega (arith, leb-false 4 (length m) e) in ap (field p k) (sym (take_all 4 m short))

module _ (m n : List ℕ) (e : take 4 m ≡ take 4 n) (l : length m ≡ length n) where
  same_field : (p k : ℕ) → p + k ≤ 32 → field p k m ≡ field p k n
  same_field p k h = field-four p k m h ∙ ap (field p k) e ∙ sym (field-four p k n h)

  same_id : message_id m ≡ message_id n
  unfolding message_id
  same_id = same_field 8 22 (omega arith)

  same_answer : (t : ℕ) (rs : List Seen) (cap : ℕ) → forward_answer m t rs cap ≡ forward_answer n t rs cap
  unfolding forward_answer version subtype hop_count
  same_answer t rs cap = rw (l, same_id, same_field 5 3 (omega arith), same_field 0 4 (omega arith), same_field 30 2 (omega arith)) refl

  same_list : (t : ℕ) (rs : List Seen) (cap : ℕ) → seen_after m t rs cap ≡ seen_after n t rs cap
  same_list t rs cap = ap (λ (x : Answer). seen_by x m t rs) (same_answer t rs cap) ∙ go (forward_answer n t rs cap)
    where
      go : (x : Answer) → seen_by x m t rs ≡ seen_by x n t rs
      go (Ok c) = ap (λ (id : ℕ). set rs (first_free t rs) (record_of id t)) same_id
      go (Err r) = refl

-- ── what changes in a message ──

beyond : (i : ℕ) → 30 ≤ i → i ≢ 30 → i ≢ 31 → 32 ≤ i
beyond i l h k = go (leb 31 i) refl (leb 32 i) refl
  where
    go : (a : Bool) → leb 31 i ≡ a → (b : Bool) → leb 32 i ≡ b → 32 ≤ i
    go a ea true eb = leb-true 32 i eb
    go true ea false eb = absurd (k (omega (arith, leb-true 31 i ea, leb-false 32 i eb)))
    go false ea false eb = absurd (h (omega (arith, leb-false 31 i ea)))

module _ (m : List ℕ) (long : 4 ≤ length m) where
  abbrev less : List Bool
  less = bits_of 2 (hop_count m - 1)

  within : 30 + length less ≤ length (unpack m)
  within = rw (length-bits_of 2 (hop_count m - 1), length-unpack m) (omega arith)

  lowered-bits : unpack (lowered m) ≡ spliced (unpack m) 30 less
  unfolding lowered
  lowered-bits =
      let two = length-bits_of 2 (hop_count m - 1) in
      let same : take 30 (unpack m) ++ (less ++ drop 32 (unpack m)) ≡ spliced (unpack m) 30 less = rw two refl in
      let size : length (spliced (unpack m) 30 less) ≡ 8 * length m = length-spliced (unpack m) 30 less within ∙ length-unpack m in
      ap (λ (b : List Bool). unpack (pack (length m) b)) same ∙ unpack-pack (length m) (spliced (unpack m) 30 less) size

  -- what stands behind the two bits stays
  behind : drop 32 (spliced (unpack m) 30 less) ≡ drop 32 (unpack m)
  behind =
      let two = length-bits_of 2 (hop_count m - 1) in
      let front : length (take 30 (unpack m) ++ less) ≡ 32 = rw (length-append, two, length-take-le 30 (unpack m) (rw (length-unpack m) (omega arith))) refl in
      rw (two, ← append_assoc (take 30 (unpack m)) less (drop 32 (unpack m))) (drop_at (take 30 (unpack m) ++ less) (drop 32 (unpack m)) 32 front)

  others : (i : ℕ) → i ≢ 30 → i ≢ 31 → get_or (unpack (lowered m)) i false ≡ get_or (unpack m) i false
  others i h k = ap (λ (b : List Bool). get_or b i false) lowered-bits ∙ go (ltb i 30) refl
    where
      go : (b : Bool) → ltb i 30 ≡ b → get_or (spliced (unpack m) 30 less) i false ≡ get_or (unpack m) i false
      go true e =
          let l = ltb-true i 30 e in
          sym (get_or-take 30 (spliced (unpack m) 30 less) i false l) ∙ ap (λ (b : List Bool). get_or b i false) (take-spliced (unpack m) 30 less within) ∙ get_or-take 30 (unpack m) i false l
      go false e =
          let l : 32 + (i - 32) ≡ i = omega (arith, beyond i (ltb-false i 30 e) h k) in
          rw (← l) (sym (get_or-drop 32 (spliced (unpack m) 30 less) (i - 32) false) ∙ ap (λ (b : List Bool). get_or b (i - 32) false) behind ∙ get_or-drop 32 (unpack m) (i - 32) false)

  hops-few : hop_count m < 4
  unfolding hop_count
  hops-few = number_of-take_lt 2 2 (drop 30 (unpack m)) (omega arith)

  hops-lower : hop_count (lowered m) ≡ hop_count m - 1
  unfolding hop_count
  hops-lower =
      let two = length-bits_of 2 (hop_count m - 1) in
      let few = hops-few in
      let part : take 2 (drop 30 (spliced (unpack m) 30 less)) ≡ less = subst (λ (k : ℕ). take k (drop 30 (spliced (unpack m) 30 less)) ≡ less) two (part_spliced (unpack m) 30 less within) in
      ap (λ (b : List Bool). number_of (take 2 (drop 30 b))) lowered-bits ∙ ap number_of part ∙ number_of-bits_of 2 (hop_count m - 1) (omega arith)

pub lowered-size : (m : List ℕ) → length (lowered m) ≡ length m
unfolding lowered
lowered-size m = length-pack (length m) _

pub lowered-octets : (m : List ℕ) (i : ℕ) → get_or (lowered m) i 0 < 256
unfolding lowered
lowered-octets m = pack-octets (length m) _

-- ── all of it ──

pub steps : Steps
steps = record {
  exactly = λ m t rs cap. (passes m t rs cap, goes_on m t rs cap);
  output = λ m t rs cap p. ap (λ (x : Answer). output_by x m cap) (goes_on m t rs cap p);
  blind = λ m n e l t rs cap. (same_answer m n e l t rs cap, same_list m n e l t rs cap);
  lowers = λ m long some. record {
    size = lowered-size m;
    octets = lowered-octets m;
    others = others m long;
    hops = omega (arith, hops-lower m long);
  };
  stores = λ m t rs cap p. subst (Stored (message_id m) t rs) (sym (seen-is m t rs cap p)) (stored_at (message_id m) t rs (free_inside m t rs cap p));
  refuses = λ m t rs cap r e. (ap (λ (x : Answer). seen_by x m t rs) e, ap (λ (x : Answer). output_by x m cap) e);
}
