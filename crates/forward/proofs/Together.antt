-- The step in parts is the step: the tests of a message alone, then those by two searches of the list, are Forward.antt's tests in
-- their order; and what is stored where the searches say is the list after the step.
use Prim.Native.Nat.{ℕ}
use native.Mathlib.Nat.{le_refl}
use mathlib.Core.Bool.{Bool, true, false, not, cond}
use mathlib.Core.List.{List}
use mathlib.Core.Path.{◌≡◌, refl, sym, ◌∙◌, ap, subst}
use lib.Dec.{leb, ltb, eqb}
use lib.ListN.{length, set}
use lib.Seq.{set_out}
use borrow.Author.Tests.{leb-true}
use Rattle.bits.specs.declared.OctetSize.{OctetSize}
use Rattle.answer.specs.Numbers.{refusal_at, accepted, answer_if, Answer}
use Rattle.answer.specs.declared.Refusal.{Refusal}
use Rattle.seen.specs.declared.Seen.{Seen}
use Rattle.seen.specs.Records.{holds, first_with, first_free, record_of}
use Rattle.seen.specs.Search.{wanted_by}
use Rattle.seen.specs.declared.Sought.TheVariants.{Free, Any}
use Rattle.seen.proofs.Searches.{not_held}
use Rattle.forward.specs.Forward.{subtype, version, message_id, hop_count, forward_answer, seen_by, seen_after}
use Rattle.forward.specs.Parts.{head_if, head_of, ask_of, step_if, chosen, step_of, kept_by, Emits, Head}
use Rattle.forward.specs.declared.Ask.{Ask}
use Rattle.forward.specs.declared.Step.{Step}
use Rattle.std.proofs.Common.{Ok, Err}

-- ── the tests by the list ──

module _ (t : ℕ) (octets : OctetSize) (fits : Bool) (rs : List Seen) where
  abbrev asks : Head → Ask
  asks h = record { head = h; time = t; octets = octets; fits = fits }

  -- the answer that a head comes to, and the list
  abbrev answer_of : Head → Answer
  answer_of h = (step_of (asks h) rs).answer

  abbrev list_of : Head → List Seen
  list_of h = kept_by (asks h) rs

  -- the tests of an ID that no live record has, and its list by an answer
  abbrev rest : Answer
  rest = answer_if (ltb (first_free t rs) (length rs)) (refusal_at 42 0) (answer_if fits (refusal_at 8 0) (accepted 0 0 octets.0))

  abbrev by : ℕ → Answer → List Seen
  by id (Ok c) = set rs (first_free t rs) (record_of id t)
  by id (Err r) = rs

  module _ (id : ℕ) where
    -- what is decided under a test is its answer under it; and stores nothing, where it refuses
    abbrev Good : Step → Type 0
    Good x = set rs x.at (record_of id t) ≡ by id x.answer

    answer_if_lem : (b : Bool) (r : Refusal) (x : Step) → (step_if b (length rs) r x).answer ≡ answer_if b r x.answer
    answer_if_lem true r x = refl
    answer_if_lem false r x = refl

    good_if : (b : Bool) (r : Refusal) (x : Step) → Good x → Good (step_if b (length rs) r x)
    good_if true r x e = e
    good_if false r x e = set_out rs (length rs) (record_of id t) (le_refl (length rs))

    abbrev last : Step
    last = record { at = first_free t rs; answer = accepted 0 0 octets.0 }

    abbrev then : Step
    then = step_if fits (length rs) (refusal_at 8 0) last

    -- what is decided by whether the search for the ID ran to the end
    abbrev free_with : Bool → ℕ
    free_with b = first_with (wanted_by (record { time = t; sought = cond b Free Any })) rs

    abbrev step_with : Bool → Step
    step_with b =
        step_if b (length rs) (refusal_at 41 8)
        (step_if (ltb (free_with b) (length rs)) (length rs) (refusal_at 42 0) (step_if fits (length rs) (refusal_at 8 0) (record { at = free_with b; answer = accepted 0 0 octets.0 })))

    answer_with : (b : Bool) → (step_with b).answer ≡ answer_if b (refusal_at 41 8) rest
    answer_with true = answer_if_lem (ltb (first_free t rs) (length rs)) (refusal_at 42 0) then ∙ ap (answer_if (ltb (first_free t rs) (length rs)) (refusal_at 42 0)) (answer_if_lem fits (refusal_at 8 0) last)
    answer_with false = refl

    good_with : (b : Bool) → Good (step_with b)
    good_with true = good_if (ltb (first_free t rs) (length rs)) (refusal_at 42 0) then (good_if fits (refusal_at 8 0) last refl)
    good_with false = set_out rs (length rs) (record_of id t) (le_refl (length rs))

    step_is : step_of (asks (Ok id)) rs ≡ step_with (not (holds id t rs))
    unfolding step_of chosen
    step_is = ap step_with (not_held id t rs)

    answer_by : answer_of (Ok id) ≡ answer_if (not (holds id t rs)) (refusal_at 41 8) rest
    answer_by = ap (λ (x : Step). x.answer) step_is ∙ answer_with (not (holds id t rs))

    list_by : list_of (Ok id) ≡ by id (answer_of (Ok id))
    list_by = subst Good (sym step_is) (good_with (not (holds id t rs)))

  -- under a test of the head alone
  answer-under : (b : Bool) (r : Refusal) (h : Head) → answer_of (head_if b r h) ≡ answer_if b r (answer_of h)
  unfolding step_of
  answer-under true r h = refl
  answer-under false r h = refl

  list-under : (id : ℕ) (b : Bool) (r : Refusal) (h : Head) → list_of h ≡ by id (answer_of h) → list_of (head_if b r h) ≡ by id (answer_of (head_if b r h))
  unfolding step_of
  list-under id true r h e = e
  list-under id false r h e = set_out rs (length rs) (record_of 0 t) (le_refl (length rs))

-- ── all of them ──

module _ (m : List ℕ) (t : ℕ) (rs : List Seen) (cap : ℕ) where
  abbrev size : OctetSize
  size = record { 0 = length m }

  abbrev fit : Bool
  fit = leb (length m) cap

  together : (step_of (ask_of m t cap) rs).answer ≡ forward_answer m t rs cap
  unfolding head_of forward_answer
  together =
      let under = answer-under t size fit rs in
      under (leb (length m) 65535) (refusal_at 13 0) _
      ∙ ap (answer_if (leb (length m) 65535) (refusal_at 13 0)) (under (leb 4 (length m)) (refusal_at 2 0) _
      ∙ ap (answer_if (leb 4 (length m)) (refusal_at 2 0)) (under (eqb (version m) 3) (refusal_at 10 5) _
      ∙ ap (answer_if (eqb (version m) 3) (refusal_at 10 5)) (under (eqb (subtype m) 2) (refusal_at 11 0) _
      ∙ ap (answer_if (eqb (subtype m) 2) (refusal_at 11 0)) (under (leb 1 (hop_count m)) (refusal_at 40 30) _
      ∙ ap (answer_if (leb 1 (hop_count m)) (refusal_at 40 30)) (answer_by t size fit rs (message_id m))))))

  kept_together : kept_by (ask_of m t cap) rs ≡ seen_after m t rs cap
  unfolding head_of
  kept_together =
      let under = list-under t size fit rs (message_id m) in
      by_seen (step_of (ask_of m t cap) rs).answer
      (under (leb (length m) 65535) (refusal_at 13 0) _
      (under (leb 4 (length m)) (refusal_at 2 0) _
      (under (eqb (version m) 3) (refusal_at 10 5) _
      (under (eqb (subtype m) 2) (refusal_at 11 0) _
      (under (leb 1 (hop_count m)) (refusal_at 40 30) _
      (list_by t size fit rs (message_id m)))))))
      ∙ ap (λ (x : Answer). seen_by x m t rs) together
    where
      by_seen : {zs : List Seen} (x : Answer) → zs ≡ by t size fit rs (message_id m) x → zs ≡ seen_by x m t rs
      by_seen (Ok c) e = e
      by_seen (Err r) e = e

  -- so for whoever asks as the message does
  module _ {a : Ask} (e : a ≡ ask_of m t cap) where
    pub answer_is : {x : Answer} → x ≡ (step_of a rs).answer → x ≡ forward_answer m t rs cap
    answer_is h = h ∙ ap (λ (k : Ask). (step_of k rs).answer) e ∙ together

    pub list_is : {zs : List Seen} → zs ≡ kept_by a rs → zs ≡ seen_after m t rs cap
    list_is h = h ∙ ap (λ (k : Ask). kept_by k rs) e ∙ kept_together

  -- a message goes on only if it has a head, some hops, and an output for it
  pub emits : Emits (forward_answer m t rs cap) m cap
  unfolding forward_answer
  emits =
      emits_if (leb (length m) 65535) _ _ (λ _.
      emits_if (leb 4 (length m)) _ _ (λ long.
      emits_if (eqb (version m) 3) _ _ (λ _.
      emits_if (eqb (subtype m) 2) _ _ (λ _.
      emits_if (leb 1 (hop_count m)) _ _ (λ some.
      emits_if (not (holds (message_id m) t rs)) _ _ (λ _.
      emits_if (ltb (first_free t rs) (length rs)) _ _ (λ _.
      emits_if fit _ _ (λ fits.
      (leb-true 4 (length m) long, leb-true 1 (hop_count m) some, leb-true (length m) cap fits)))))))))
    where
      emits_if : (b : Bool) (r : Refusal) (x : Answer) → (b ≡ true → Emits x m cap) → Emits (answer_if b r x) m cap
      emits_if true r x f = f refl
      emits_if false r x f = tt
