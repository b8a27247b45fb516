-- From what the reader and the call on an LM answer to where the user data stands.
-- Assumes nothing.
use Prim.Native.Nat.{ℕ, suc, ◌+◌, ◌-◌, ◌≤◌}
use mathlib.Core.Path.{◌≡◌, refl, sym, ap, ◌∙◌}
use mathlib.Core.List.{List}
use native.Mathlib.Omega.{arith}
use native.Mathlib.Nat.{zero-add}
use lib.IntN.{ℤ}
use lib.ListN.{length}
use Rattle.bits.specs.Bits.{unpack}
use Rattle.answer.specs.declared.Counts.{Counts}
use Rattle.answer.specs.declared.Refusal.{Refusal}
use Rattle.items.specs.Items.{◌then◌}
use Rattle.encoding.specs.Rows.{items}
use Rattle.items.specs.Reading.{ReadOutcome, accept, refuse, read_answer}
use Rattle.items.specs.Walk.{Walk, walked, blocked, walk}
use Rattle.read_steps.specs.declared.Cursor.{Cursor}
use Rattle.read_steps.specs.Reads.{Step, cursor_at, step_of, state_at, Reads}
use Rattle.read_steps.proofs.Flow.{continues_part, refused_part}
use Rattle.builtin.specs.Tables.{lm}
use Rattle.lm.specs.ByName.{read_lm_outcome}
use Rattle.userdata.specs.declared.Span.{Span}
use Rattle.userdata.specs.UserData.{enough, headers, data_length, found_in, user_data_found}
use Rattle.userdata.specs.Headers.{walk_count, header_count}
use Rattle.userdata.proofs.Taken.{read_is}
use Rattle.std.proofs.Common.{Ok, Err}

-- ── the count of the headers' values ──

step-refused : (w : Walk) (refusal : Refusal) → Err refusal ≡ step_of 0 w → 0 ≡ walk_count w
step-refused (walked vs at) refusal e = let z : ◌≡◌ {A = ℕ} 0 1 = cc in absurd (omega arith)
step-refused (blocked by) refusal e = refl

step_past : (w : Walk) (c : Cursor) → Ok c ≡ step_of 0 w → c.count ≡ walk_count w
step_past (walked vs at) c e = let q : c ≡ cursor_at at (0 + length vs) = cc in ap (λ (x : Cursor). x.count) q ∙ zero-add (length vs)
step_past (blocked refusal) c e = let z : ◌≡◌ {A = ℕ} 0 1 = cc in absurd (omega arith)

module _ (s : List ℕ) (old new : List ℤ) (old_packed new_packed : List ℕ) (first : Step)
    (reads : Reads s enough (items lm 204) (state_at (cursor_at 0 0) old old_packed) new new_packed first) where
  pub network-refused : (refusal : Refusal) → first ≡ Err refusal → 0 ≡ header_count s
  unfolding header_count headers
  network-refused refusal e = step-refused (walk (items lm 204 then items lm 278) (unpack s) enough 0) refusal (sym e ∙ (refused_part (items lm 204) (items lm 278) reads e).agrees.answer)

  module _ (c : Cursor) (past : first ≡ Ok c) (end : List ℤ) (end_packed : List ℕ) (second : Step)
      (further : Reads s enough (items lm 278) (state_at c new new_packed) end end_packed second) where
    both : Reads s enough (items lm 204 then items lm 278) (state_at (cursor_at 0 0) old old_packed) end end_packed second
    both = (continues_part (items lm 204) (items lm 278) reads past).complete end end_packed second further

    pub transport-refused : (refusal : Refusal) → second ≡ Err refusal → 0 ≡ header_count s
    unfolding header_count headers
    transport-refused refusal e = step-refused (walk (items lm 204 then items lm 278) (unpack s) enough 0) refusal (sym e ∙ both.agrees.answer)

    pub transport_past : (d : Cursor) → second ≡ Ok d → d.count ≡ header_count s
    unfolding header_count headers
    transport_past d e = step_past (walk (items lm 204 then items lm 278) (unpack s) enough 0) d (sym e ∙ both.agrees.answer)

-- ── where the user data stands ──

abbrev span_of : ℕ → ℕ → Span
span_of start length = record { start = record { 0 = start }; length = record { 0 = length } }

-- an accepted LM: the length of its user data, by the count of its values
pub record Placed (s : List ℕ) (counts : Counts) : Type 0 where
  pub size : ℕ
  pub most : length s ≤ 65535
  pub count : counts.values ≡ header_count s + suc size
  pub within : size ≤ length s
  pub found : user_data_found s ≡ Ok (span_of (length s - size) size)

module _ (s : List ℕ) where
  pub accepted-placed : (counts : Counts) → read_answer (read_lm_outcome s enough) ≡ Ok counts → Placed s counts
  unfolding user_data_found
  accepted-placed counts e = go (read_lm_outcome s enough) refl e
    where
      go : (x : ReadOutcome) → read_lm_outcome s enough ≡ x → read_answer x ≡ Ok counts → Placed s counts
      go (refuse refusal) q e = let z : ◌≡◌ {A = ℕ} 0 1 = cc in absurd (omega arith)
      go (accept vs n) q e =
          let r = read_is s vs n q in
          let k : record { values = length vs; bits = record { 0 = n }; octets = record { 0 = 0 } } ≡ counts = cc in
          record {
            size = data_length vs;
            most = r.most;
            count = sym (ap (λ (x : Counts). x.values) k) ∙ r.count;
            within = r.within;
            found = ap (found_in (length s)) q;
          }

  pub refused-placed : (refusal : Refusal) → read_answer (read_lm_outcome s enough) ≡ Err refusal → Err refusal ≡ user_data_found s
  unfolding user_data_found
  refused-placed refusal e = go (read_lm_outcome s enough) e
    where
      go : (x : ReadOutcome) → read_answer x ≡ Err refusal → Err refusal ≡ found_in (length s) x
      go (accept vs n) e = let z : ◌≡◌ {A = ℕ} 0 1 = cc in absurd (omega arith)
      go (refuse by) e = let k : by ≡ refusal = cc in ap Err (sym k)

  -- the part ends the message
  pub found-ends : (span : Span) → user_data_found s ≡ Ok span → span.start.0 + span.length.0 ≡ length s
  unfolding user_data_found
  found-ends span e = go (read_lm_outcome s enough) refl e
    where
      go : (x : ReadOutcome) → read_lm_outcome s enough ≡ x → found_in (length s) x ≡ Ok span → span.start.0 + span.length.0 ≡ length s
      go (refuse refusal) q e = let z : ◌≡◌ {A = ℕ} 0 1 = cc in absurd (omega arith)
      go (accept vs n) q e =
          let k : span_of (length s - data_length vs) (data_length vs) ≡ span = cc in
          let a : length s - data_length vs ≡ span.start.0 = ap (λ (x : Span). x.start.0) k in
          let b : data_length vs ≡ span.length.0 = ap (λ (x : Span). x.length.0) k in
          omega (arith, (read_is s vs n q).within)
