-- Laws of whole frames one after another: how many octets they take goes by the first of them.
use Prim.Native.Nat.{ℕ, zero, suc, ◌+◌, ◌-◌, ◌*◌, ◌<◌, ◌≤◌}
use mathlib.Core.Path.{◌≡◌, refl, sym, ap, ap₂, ◌∙◌}
use mathlib.Core.List.{List, []}
use native.Mathlib.Nat.{add-zero}
use native.Mathlib.Omega.{arith}
use borrow.Author.Tests.{le-ltb}
use lib.ListN.{length, take, drop, length-drop, drop_of_length-le}
use lib.Seq.{take_all, drop-drop, length-take-le, get_or-take}
use Rattle.octets.specs.Numbers.{u16}
use Rattle.machine.specs.declared.Front.{Front}
use Rattle.machine.specs.declared.Front.TheVariants.{Whole, Part, Wrong}
use Rattle.house.specs.House.{first_frame, whole_by, whole_within, whole_frames}
use Rattle.house.proofs.Fronts.{whole_is, whole_within_lem}

-- more frames than there can be change nothing
same_within : (f g : ℕ) (s : List ℕ) → length s < f → length s < g → whole_within f s ≡ whole_within g s
unfolding whole_within
same_within zero g s h k = absurd (omega arith)
same_within (suc f) zero s h k = absurd (omega arith)
same_within (suc f) (suc g) s h k =
    by (first_frame s) (λ size e. same_within f g (drop size s) (omega (arith, length-drop size s, (whole_within_lem s size e).0, (whole_within_lem s size e).1)) (omega (arith, length-drop size s, (whole_within_lem s size e).0, (whole_within_lem s size e).1))) refl
  where
    by : (x : Front) → ((size : ℕ) → first_frame s ≡ Whole size → whole_within f (drop size s) ≡ whole_within g (drop size s)) → first_frame s ≡ x
        → whole_by x (λ size. whole_within f (drop size s)) ≡ whole_by x (λ size. whole_within g (drop size s))
    by (Whole size) same e = ap (λ (n : ℕ). size + n) (same size e)
    by Part same e = refl
    by Wrong same e = refl

-- a whole frame first, and then those behind it
pub whole_first : (s : List ℕ) (size : ℕ) → first_frame s ≡ Whole size → whole_frames s ≡ size + whole_frames (drop size s)
unfolding whole_frames whole_within
whole_first s size e =
    let fits = whole_within_lem s size e in
    let fewer : length (drop size s) < length s = omega (arith, length-drop size s, fits.0, fits.1) in
    rw e (ap (λ (n : ℕ). size + n) (same_within (length s) (suc (length (drop size s))) (drop size s) fewer (omega arith)))

-- none
pub whole_none : (s : List ℕ) → ((size : ℕ) → first_frame s ≡ Whole size → ⊥) → whole_frames s ≡ 0
unfolding whole_frames whole_within
whole_none s not_whole = by (first_frame s) refl
  where
    by : (x : Front) → first_frame s ≡ x → whole_by x (λ size. whole_within (length s) (drop size s)) ≡ 0
    by (Whole size) e = absurd (not_whole size e)
    by Part e = refl
    by Wrong e = refl

pub whole_nothing : whole_frames [] ≡ 0
unfolding whole_frames whole_within first_frame
whole_nothing = refl

-- a frame alone is whole
pub frame-alone : (s : List ℕ) (size : ℕ) → first_frame s ≡ Whole size → first_frame (take size s) ≡ Whole size
unfolding first_frame u16
frame-alone s size e =
    let is = whole_is s size e in
    let many = length-take-le size s is.1 in
    let length_is : u16 (take size s) 0 ≡ size = ap₂ (λ (a b : ℕ). a + 256 * b) (get_or-take size s 0 0 (omega (arith, is.0))) (get_or-take size s 1 0 (omega (arith, is.0))) ∙ is.2 in
    rw (many, le-ltb size 4 is.0, length_is, le-ltb size 4 is.0, le-ltb size size (omega arith))

pub whole_alone : (s : List ℕ) (size : ℕ) → first_frame s ≡ Whole size → whole_frames (take size s) ≡ length (take size s)
whole_alone s size e =
    let is = whole_within_lem s size e in
    let many = length-take-le size s is.1 in
    let none_left : drop size (take size s) ≡ [] = drop_of_length-le (take size s) {i = size} (omega arith) in
    whole_first (take size s) size (frame-alone s size e) ∙ rw (none_left, whole_nothing, many) (add-zero size)

-- ---- in the middle of octets

-- what is behind an index, as it is handed over
pub octets_behind : (octets : List ℕ) (at : ℕ) → take (length octets - at) (drop at octets) ≡ drop at octets
octets_behind octets at = take_all (length octets - at) (drop at octets) (omega (arith, length-drop at octets))

-- a whole frame behind an index
pub frame_behind : (octets : List ℕ) (at size : ℕ) (f : Front) → (at ≤ length octets) × (whole_frames octets ≡ at + whole_frames (drop at octets))
    → f ≡ first_frame (take (length octets - at) (drop at octets)) → f ≡ Whole size
    → (4 ≤ size) × (at + size ≤ length octets) × (whole_frames octets ≡ at + size + whole_frames (drop (at + size) octets)) × (first_frame (drop at octets) ≡ Whole size)
frame_behind octets at size f so told e =
    let whole : first_frame (drop at octets) ≡ Whole size = sym (rw (octets_behind octets at) at told) ∙ e in
    let fits = whole_within_lem (drop at octets) size whole in
    let first = whole_first (drop at octets) size whole in
    let rest : whole_frames (drop size (drop at octets)) ≡ whole_frames (drop (at + size) octets) = ap whole_frames (drop-drop size at octets) in
    (fits.0, omega (arith, so.0, fits.1, length-drop at octets), omega (arith, so.1, first, rest), whole)
