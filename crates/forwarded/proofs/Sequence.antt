-- Any sequence of calls: a live record stays, call by call; so the ID in it is held.
use Prim.Native.Nat.{ℕ, ◌+◌, ◌≤◌, ◌<◌}
use native.Mathlib.Omega.{arith}
use mathlib.Core.Bool.{Bool, true, false}
use mathlib.Core.Logic.{◌≢◌, inl, inr}
use mathlib.Core.Path.{◌≡◌, refl, sym, ◌∙◌, ap, subst}
use mathlib.Core.List.{List, [], ◌∷◌}
use lib.Dec.{ltb}
use lib.ListN.{length, length-set}
use lib.Seq.{get_or-set_other}
use borrow.Author.Tests.{le-leb, eq-eqb, ltb-true, ltb-false}
use Rattle.answer.specs.Numbers.{refused, accepted, Answer}
use Rattle.seen.specs.declared.Seen.{Seen}
use Rattle.seen.specs.Records.{holds, first_free, record_of, blank}
use Rattle.forward.specs.Forward.{version, subtype, message_id, hop_count, forward_answer, seen_by}
use Rattle.forwarded.specs.Steps.{Near, Live, at, Heads}
use Rattle.forwarded.specs.Sequence.{Call, answer_to, after_call, after, Until, refused_for, AnySequence}
use Rattle.forwarded.proofs.Records.{is_live, holds_at}
use Rattle.forwarded.proofs.Steps.{free_not_live, steps}
use Rattle.std.proofs.Common.{Ok, Err}

-- whatever is answered, a live record stays
keeps_by : (rs : List Seen) (t : ℕ) (m : List ℕ) (x : Answer) (i : ℕ) → i < length rs → Live t (at rs i) → at (seen_by x m t rs) i ≡ at rs i
keeps_by rs t m (Ok c) i l live = get_or-set_other rs (first_free t rs) i (record_of (message_id m) t) blank other
  where
    other : i ≢ first_free t rs
    other e = free_not_live t rs (subst (λ (k : ℕ). k < length rs) e l) (subst (λ (k : ℕ). Live t (at rs k)) e live)
keeps_by rs t m (Err r) i l live = refl

keeps : (rs : List Seen) (c : Call) (i : ℕ) → i < length rs → Live c.time (at rs i) → at (after_call rs c) i ≡ at rs i
keeps rs c i l live = keeps_by rs c.time c.message (answer_to rs c) i l live

counts_by : (rs : List Seen) (t : ℕ) (m : List ℕ) (x : Answer) → length (seen_by x m t rs) ≡ length rs
counts_by rs t m (Ok c) = length-set rs (first_free t rs) (record_of (message_id m) t)
counts_by rs t m (Err r) = refl

counts_one : (rs : List Seen) (c : Call) → length (after_call rs c) ≡ length rs
counts_one rs c = counts_by rs c.time c.message (answer_to rs c)

counts : (rs : List Seen) (calls : List Call) → length (after rs calls) ≡ length rs
counts rs [] = refl
counts rs (c ∷ calls) = counts (after_call rs c) calls ∙ counts_one rs c

-- a record is live from any earlier time on, for a while after its own
fresh : (id t u : ℕ) → u ≤ t + refused_for → Live u (record_of id t)
fresh id t u l = (refl, go (ltb u t) refl)
  where
    go : (b : Bool) → ltb u t ≡ b → Near u (record_of id t)
    go true e = inl (ltb-true u t e)
    go false e = inr (ltb-false u t e, omega arith)

-- a record stays through calls, as long as it is live
stays : (id t i : ℕ) (calls : List Call) → Until (t + refused_for) calls → (rs : List Seen) → i < length rs → at rs i ≡ record_of id t → at (after rs calls) i ≡ record_of id t
stays id t i [] h rs l e = e
stays id t i (c ∷ calls) h rs l e =
    stays id t i calls h.1 (after_call rs c) (subst (λ (n : ℕ). i < n) (sym (counts_one rs c)) l)
    (keeps rs c i l (subst (Live c.time) (sym e) (fresh id t c.time h.0)) ∙ e)

-- a call that asks for an ID which is held
held : (rs : List Seen) (d : Call) → Heads d.message → holds (message_id d.message) d.time rs ≡ true → answer_to rs d ≡ refused 41 8
unfolding forward_answer
held rs d a h =
    let m = d.message in
    rw (le-leb (length m) 65535 a.most, le-leb 4 (length m) a.long, eq-eqb (version m) 3 a.three, eq-eqb (subtype m) 2 a.two, le-leb 1 (hop_count m) a.hops, h)

once : (rs : List Seen) (c : Call) → answer_to rs c ≡ accepted 0 0 (length c.message) → (calls : List Call) → Until (c.time + refused_for) calls
    → (d : Call) → d.time ≤ c.time + refused_for → Heads d.message → message_id d.message ≡ message_id c.message → answer_to (after (after_call rs c) calls) d ≡ refused 41 8
once rs c e calls h d l a same =
    let s = steps.stores c.message c.time rs c.room ((steps.exactly c.message c.time rs c.room).0 e) in
    let id = message_id c.message in
    let first = after_call rs c in
    let inside : s.index < length first = subst (λ (n : ℕ). s.index < n) (sym s.count) s.inside in
    let later = after first calls in
    let here : at later s.index ≡ record_of id c.time = stays id c.time s.index calls h first inside s.stored in
    let within : s.index < length later = subst (λ (n : ℕ). s.index < n) (sym (counts first calls)) inside in
    let live = is_live d.time (at later s.index) (subst (Live d.time) (sym here) (fresh id c.time d.time l)) in
    held later d a (holds_at (message_id d.message) d.time later s.index within live (ap (λ (r : Seen). r.id) here ∙ sym same))

pub any-sequence : AnySequence
any-sequence = record { keeps = keeps; counts = counts; once = once }
