-- The calls for the user data give what the layout of clause 5 has, and room plays no part in it.
-- Assumes nothing.
use Prim.Native.Nat.{ℕ, ◌+◌, ◌-◌, ◌*◌, ◌≤◌}
use mathlib.Core.Path.{◌≡◌, refl, sym, ap, ap₂, ◌∙◌}
use mathlib.Core.List.{List}
use native.Mathlib.Omega.{arith}
use lib.ListN.{length, take, length-append}
use lib.Seq.{take-length}
use Rattle.bits.proofs.Bits.{length-unpack}
use Rattle.items.specs.Reading.{ReadOutcome, accept, refuse}
use Rattle.encoding.specs.Demand3.{Message}
use Rattle.lm.specs.ByName.{read_lm_outcome}
use Rattle.lm.specs.Clause5.{Lm, layout_bits, values_of}
use Rattle.lm.specs.Demand2.{LaidOut}
use Rattle.lm.specs.UserData.{bits_before, user_data_start}
use Rattle.lm.proofs.Demand2.{demand2-lm}
use Rattle.lm.proofs.UserData.{user-data-place}
use Rattle.userdata.specs.declared.Span.{Span}
use Rattle.userdata.specs.UserData.{enough, data_length, found_in, user_data_found, part_of}
use Rattle.userdata.specs.Placed.{IsUserData, UserDataPlaced}
use Rattle.userdata.proofs.Taken.{length_is}
use Rattle.userdata.proofs.Room.{lm-count, lm-room, lm_never}
use Rattle.std.proofs.Common.{Ok}

abbrev span_of : ℕ → ℕ → Span
span_of start length = record { start = record { 0 = start }; length = record { 0 = length } }

layout-length : (l : Lm) → length (layout_bits l) ≡ length (bits_before l) + 8 * length l.user_data
unfolding layout_bits bits_before
layout-length l = simp (length-append, length-unpack) (omega arith)

module _ (s : List ℕ) (m : Message s) (l : Lm) (laid : LaidOut s l) where
  -- the octets before it and its own
  octets : user_data_start l + length l.user_data ≡ length s
  octets = omega (arith, layout-length l, user-data-place.whole l, user-data-place.unpadded s l laid)

  start_is : length s - data_length (values_of l) ≡ user_data_start l
  start_is = omega (arith, octets, length_is l laid.well_formed)

  -- its list fits the room
  fits : length (values_of l) ≤ enough
  fits =
      omega (
        arith,
        lm-count (values_of l) (demand2-lm.allowed l laid.well_formed),
        ap length (demand2-lm.laid l laid.well_formed),
        user-data-place.unpadded s l laid,
        m.most,
      )

  found-is : user_data_found s ≡ Ok (span_of (user_data_start l) (length l.user_data))
  unfolding user_data_found
  found-is =
      ap (found_in (length s)) ((demand2-lm.reads s m enough (values_of l) (length (layout_bits l))).1 (l, laid, refl, fits, refl))
      ∙ ap₂ (λ a b. Ok (span_of a b)) start_is (length_is l laid.well_formed)

  part_is : part_of s (user_data_found s) ≡ l.user_data
  part_is =
      ap (part_of s) found-is ∙ ap (take (length l.user_data)) (user-data-place.rest s l laid) ∙ take-length l.user_data

module _ (s : List ℕ) (m : Message s) (span : Span) where
  found-laid : user_data_found s ≡ Ok span → (l : Lm) × LaidOut s l × IsUserData l span
  unfolding user_data_found
  found-laid e = go (read_lm_outcome s enough) refl e
    where
      go : (x : ReadOutcome) → read_lm_outcome s enough ≡ x → found_in (length s) x ≡ Ok span → (l : Lm) × LaidOut s l × IsUserData l span
      go (refuse refusal) q e = let z : ◌≡◌ {A = ℕ} 0 1 = cc in absurd (omega arith)
      go (accept vs n) q e =
          let x = (demand2-lm.reads s m enough vs n).0 q in
          let l = x.0 in
          let k : span_of (length s - data_length vs) (data_length vs) ≡ span = cc in
          let d : data_length vs ≡ data_length (values_of l) = ap data_length (sym x.2) in (
            l,
            x.1,
            record {
              start = sym (ap (λ (x : Span). x.start.0) k) ∙ ap (length s -◌) d ∙ start_is s m l x.1;
              length = sym (ap (λ (x : Span). x.length.0) k) ∙ d ∙ length_is l x.1.well_formed;
            },
          )

  laid-found : ((l : Lm) × LaidOut s l × IsUserData l span) → user_data_found s ≡ Ok span
  laid-found x = found-is s m x.0 x.1 ∙ ap₂ (λ a b. Ok (span_of a b)) (sym x.2.start) (sym x.2.length)

pub user-data-placed : UserDataPlaced
user-data-placed = record {
  placed = λ s m span. (found-laid s m span, laid-found s m span);
  part = part_is;
  room = lm-room;
  never = lm_never;
}
