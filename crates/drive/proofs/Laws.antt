-- Replaying is steady, as house frames are; so a recording has one text, and may be cut. And what octets give that begin with no whole frame.
use Prim.Native.Nat.{ℕ, ◌≤◌}
use mathlib.Core.Path.{◌≡◌, refl, subst}
use mathlib.Core.List.{List, [], ◌∷◌}
use native.Mathlib.Omega.{arith}
use lib.ListN.{length}
use Rattle.machine.specs.declared.Front.{Front}
use Rattle.machine.specs.declared.Front.TheVariants.{Whole, Part, Wrong}
use Rattle.machine.specs.Machine.{Steady, Laws, Gives, stop, end}
use Rattle.machine.proofs.Streams as streams
use Rattle.house.specs.House.{first_frame}
use Rattle.house.proofs.Fronts.{whole_within_lem, whole_stays, bad_is, bad-stays}
use Rattle.seen.specs.declared.Seen.{Seen}
use Rattle.drive.specs.Replay.{bad_frame, left_line, replay}

pub replay-steady : Steady replay
replay-steady =
    record {
      some = λ a s size e. (omega (arith, (whole_within_lem s size e).0), (whole_within_lem s size e).1);
      stays = λ a s rest size e. whole_stays s rest size e;
      wrong = λ a s rest e. bad-stays s rest e;
    }

pub replay_laws : Laws replay
replay_laws = streams.laws replay replay-steady

pub left_gives : (rs : List Seen) (s : List ℕ) → ((size : ℕ) → first_frame s ≡ Whole size → ⊥) → Gives replay rs s (left_line s) rs
left_gives rs s last = by (first_frame s) refl
  where
    some : (s : List ℕ) → 4 ≤ length s → bad_frame ≡ left_line s
    some [] h = absurd (omega arith)
    some (x ∷ s) h = refl

    by : (f : Front) → first_frame s ≡ f → Gives replay rs s (left_line s) rs
    by (Whole size) e = absurd (last size e)
    by Part e = end e
    by Wrong e = subst (λ (t : List ℕ). Gives replay rs s t rs) (some s (bad_is s e).0) (stop e)
