-- What holds of every recording: by the first of its frames, and then of those behind it.
use Prim.Native.Nat.{ℕ, zero, suc, ◌+◌, ◌-◌, ◌≤◌, ◌<◌}
use mathlib.Core.Bool.{Bool, true, false, cond}
use mathlib.Core.Path.{◌≡◌, refl, sym, ap, ◌∙◌, subst}
use mathlib.Core.List.{List, [], ◌∷◌, ◌++◌}
use native.Mathlib.Omega.{arith}
use borrow.Author.Tests.{eq-eqb, ne_eqb}
use lib.Dec.{leb, eqb}
use lib.ListN.{length, take, drop, length-drop, length-append, take-append-drop}
use lib.Seq.{drop-append-le, take-add, length-take-le}
use Rattle.octets.specs.Numbers.{u16}
use Rattle.machine.specs.declared.Front.{Front}
use Rattle.machine.specs.declared.Front.TheVariants.{Whole, Part, Wrong}
use Rattle.machine.specs.Machine.{unit, Units, none, more, joined, given}
use Rattle.std.proofs.lemmas.List.{nil_from_length}
use Rattle.house.specs.House.{first_frame, whole_frames}
use Rattle.house.proofs.Fronts.{whole_within_lem, whole_stays}
use Rattle.house.proofs.Wholes.{whole_first, whole_none, whole_nothing, whole_alone}
use Rattle.seen.specs.declared.Seen.{Seen}
use Rattle.forwarded.specs.Sequence.{Call, after}
use Rattle.drive.specs.Replay.{heard_kind, heard_header, bad_frame, frame_line, list_after, left_line, replay}
use Rattle.drive.proofs.Laws.{replay_laws, left_gives}
use Rattle.replayed.specs.Recordings.{frames_by, frames_within, frames_of, with_call, calls_of, WholeFrames, Recordings}

-- ---- the text and the list, by the first frame

module _ (rs : List Seen) (s : List ℕ) where
  module _ (size : ℕ) (whole : first_frame s ≡ Whole size) where
    abbrev frame : List ℕ
    frame = take size s

    behind : ((given replay rs s).text ≡ frame_line rs frame ++ (given replay (list_after rs frame) (drop size s)).text)
        × ((given replay rs s).left ≡ (given replay (list_after rs frame) (drop size s)).left)
    behind = replay_laws.one rs s _ _ _ _ (replay_laws.found rs s) (unit size whole (replay_laws.found (list_after rs frame) (drop size s)))

    fewer : length (drop size s) < length s
    fewer =
        let fits = whole_within_lem s size whole in
        omega (arith, length-drop size s, fits.0, fits.1)

  nothing_whole : ((size : ℕ) → first_frame s ≡ Whole size → ⊥) → ((given replay rs s).text ≡ left_line s) × ((given replay rs s).left ≡ rs)
  nothing_whole last = replay_laws.one rs s _ _ _ _ (replay_laws.found rs s) (left_gives rs s last)

not_by : (s : List ℕ) (f : Front) → first_frame s ≡ f → ((size : ℕ) → f ≡ Whole size → ⊥) → (size : ℕ) → first_frame s ≡ Whole size → ⊥
not_by s f e no_size size w = no_size size (sym e ∙ w)

-- ---- the calls

-- a frame's own call is what changes the list
by_call : (rs : List Seen) (frame : List ℕ) (calls : List Call) → after rs (with_call frame calls) ≡ after (list_after rs frame) calls
unfolding list_after
by_call rs frame calls = go (eqb (u16 frame 2) heard_kind) refl (leb heard_header (length frame)) refl
  where
    go : (a : Bool) → eqb (u16 frame 2) heard_kind ≡ a → (b : Bool) → leb heard_header (length frame) ≡ b → after rs (with_call frame calls) ≡ after (list_after rs frame) calls
    go true p true q = rw (p, q)
    go true p false q = rw (p, q)
    go false p b q = rw p

singly_within : (most : ℕ) (rs : List Seen) (s : List ℕ) → length s < most → (given replay rs s).left ≡ after rs (calls_of (frames_within most s))
unfolding frames_within calls_of
singly_within zero rs s h = absurd (omega arith)
singly_within (suc most) rs s h =
    by (first_frame s) refl (λ size whole. singly_within most (list_after rs (take size s)) (drop size s) (omega (arith, fewer rs s size whole)))
  where
    by : (f : Front) → first_frame s ≡ f
        → ((size : ℕ) → first_frame s ≡ Whole size → (given replay (list_after rs (take size s)) (drop size s)).left ≡ after (list_after rs (take size s)) (calls_of (frames_within most (drop size s))))
        → (given replay rs s).left ≡ after rs (calls_of (frames_by s f (λ size. frames_within most (drop size s))))
    by (Whole size) e rest = (behind rs s size e).1 ∙ rest size e ∙ sym (by_call rs (take size s) (calls_of (frames_within most (drop size s))))
    by Part e rest = (nothing_whole rs s (not_by s Part e (λ size p. cc))).1
    by Wrong e rest = (nothing_whole rs s (not_by s Wrong e (λ size p. cc))).1

-- ---- whole frames and nothing else

units_within : (most : ℕ) (rs : List Seen) (x : List ℕ) → length x < most → WholeFrames x → Units replay rs x (given replay rs x).text (given replay rs x).left
units_within zero rs x h w = absurd (omega arith)
units_within (suc most) rs x h w =
    by (first_frame x) refl
    (λ size whole. units_within most (list_after rs (take size x)) (drop size x) (omega (arith, fewer rs x size whole)) (omega (arith, w, whole_first x size whole, length-drop size x, (whole_within_lem x size whole).1)))
  where
    nothing : ((size : ℕ) → first_frame x ≡ Whole size → ⊥) → Units replay rs x (given replay rs x).text (given replay rs x).left
    nothing last =
        let none_there : x ≡ [] = nil_from_length x (omega (arith, w, whole_none x last)) in
        let are = nothing_whole rs x last in
        rw (are.0, are.1) (rw none_there none)

    by : (f : Front) → first_frame x ≡ f
        → ((size : ℕ) → first_frame x ≡ Whole size → Units replay (list_after rs (take size x)) (drop size x) (given replay (list_after rs (take size x)) (drop size x)).text (given replay (list_after rs (take size x)) (drop size x)).left)
        → Units replay rs x (given replay rs x).text (given replay rs x).left
    by (Whole size) e rest =
        let are = behind rs x size e in
        rw (are.0, are.1) (more size e (rest size e))
    by Part e rest = nothing (not_by x Part e (λ size p. cc))
    by Wrong e rest = nothing (not_by x Wrong e (λ size p. cc))

cut : (rs : List Seen) (x y : List ℕ) → WholeFrames x
    → ((given replay rs (x ++ y)).text ≡ (given replay rs x).text ++ (given replay (given replay rs x).left y).text)
    × ((given replay rs (x ++ y)).left ≡ (given replay (given replay rs x).left y).left)
cut rs x y w =
    let first = units_within (suc (length x)) rs x (omega arith) w in
    let left = (given replay rs x).left in
    replay_laws.one rs (x ++ y) _ _ _ _ (replay_laws.found rs (x ++ y)) (replay_laws.cut rs left (given replay left y).left x y (given replay rs x).text (given replay left y).text first (replay_laws.found left y))

longest_within : (most : ℕ) (x y : List ℕ) → length x < most → WholeFrames x → whole_frames (x ++ y) ≡ length x + whole_frames y
longest_within zero x y h w = absurd (omega arith)
longest_within (suc most) x y h w =
    by (first_frame x) refl
    (λ size whole. longest_within most (drop size x) y (omega (arith, fewer [] x size whole)) (omega (arith, w, whole_first x size whole, length-drop size x, (whole_within_lem x size whole).1)))
  where
    nothing : ((size : ℕ) → first_frame x ≡ Whole size → ⊥) → whole_frames (x ++ y) ≡ length x + whole_frames y
    nothing last =
        let none_there : x ≡ [] = nil_from_length x (omega (arith, w, whole_none x last)) in
        rw none_there (omega arith)

    by : (f : Front) → first_frame x ≡ f → ((size : ℕ) → first_frame x ≡ Whole size → whole_frames (drop size x ++ y) ≡ length (drop size x) + whole_frames y)
        → whole_frames (x ++ y) ≡ length x + whole_frames y
    by (Whole size) e rest =
        let fits = whole_within_lem x size e in
        let first = whole_first (x ++ y) size (whole_stays x y size e) in
        let same = ap whole_frames (drop-append-le size x y fits.1) in
        omega (arith, first, same, rest size e, length-drop size x, fits.1)
    by Part e rest = nothing (not_by x Part e (λ size p. cc))
    by Wrong e rest = nothing (not_by x Wrong e (λ size p. cc))

-- ---- the whole frames that octets begin with

first_within : (most : ℕ) (s : List ℕ) → length s < most → (whole_frames s ≤ length s) × WholeFrames (take (whole_frames s) s)
first_within zero s h = absurd (omega arith)
first_within (suc most) s h = by (first_frame s) refl (λ size whole. first_within most (drop size s) (omega (arith, fewer [] s size whole)))
  where
    nothing : ((size : ℕ) → first_frame s ≡ Whole size → ⊥) → (whole_frames s ≤ length s) × WholeFrames (take (whole_frames s) s)
    nothing last = rw (whole_none s last) (omega arith, whole_nothing)

    by : (f : Front) → first_frame s ≡ f → ((size : ℕ) → first_frame s ≡ Whole size → (whole_frames (drop size s) ≤ length (drop size s)) × WholeFrames (take (whole_frames (drop size s)) (drop size s)))
        → (whole_frames s ≤ length s) × WholeFrames (take (whole_frames s) s)
    by (Whole size) e rest =
        let k = whole_frames (drop size s) in
        let fits = whole_within_lem s size e in
        let first = whole_first s size e in
        let so = rest size e in
        let long = longest_within (suc size) (take size s) (take k (drop size s)) (omega (arith, length-take-le size s fits.1)) (whole_alone s size e) in
        let there = length-take-le k (drop size s) so.0 in
        let one = length-take-le size s fits.1 in
        (omega (arith, first, so.0, length-drop size s, fits.1), rw (first, take-add size k s) (omega (arith, long, one, there, so.1, length-append (take size s) (take k (drop size s)))))
    by Part e rest = nothing (not_by s Part e (λ size p. cc))
    by Wrong e rest = nothing (not_by s Wrong e (λ size p. cc))

next_whole : (x y : List ℕ) (size : ℕ) → WholeFrames x → first_frame y ≡ Whole size → WholeFrames (x ++ take size y)
next_whole x y size w e =
    let long = longest_within (suc (length x)) x (take size y) (omega arith) w in
    omega (arith, long, whole_alone y size e, length-append x (take size y))

frames_within_lem : (most : ℕ) (s : List ℕ) → length s < most → joined (frames_within most s) ≡ take (whole_frames s) s
unfolding frames_within joined
frames_within_lem zero s h = absurd (omega arith)
frames_within_lem (suc most) s h = by (first_frame s) refl (λ size whole. frames_within_lem most (drop size s) (omega (arith, fewer [] s size whole)))
  where
    by : (f : Front) → first_frame s ≡ f → ((size : ℕ) → first_frame s ≡ Whole size → joined (frames_within most (drop size s)) ≡ take (whole_frames (drop size s)) (drop size s))
        → joined (frames_by s f (λ size. frames_within most (drop size s))) ≡ take (whole_frames s) s
    by (Whole size) e rest = rw (whole_first s size e, take-add size (whole_frames (drop size s)) s, rest size e)
    by Part e rest = rw (whole_none s (not_by s Part e (λ size p. cc)))
    by Wrong e rest = rw (whole_none s (not_by s Wrong e (λ size p. cc)))

-- ---- what is behind them

left_is : (n : ℕ) (s : List ℕ) → n ≤ length s → left_line (drop n s) ≡ cond (eqb n (length s)) [] bad_frame
left_is n s h = by (drop n s) (length-drop n s)
  where
    by : (r : List ℕ) → length r ≡ length s - n → left_line r ≡ cond (eqb n (length s)) [] bad_frame
    by [] e = rw (eq-eqb n (length s) (omega arith))
    by (x ∷ r) e = rw (ne_eqb n (length s) (λ p. omega arith))

rest-is : (rs : List Seen) (s : List ℕ) → (given replay rs s).text ≡ (given replay rs (take (whole_frames s) s)).text ++ cond (eqb (whole_frames s) (length s)) [] bad_frame
rest-is rs s =
    let n = whole_frames s in
    let first = first_within (suc (length s)) s (omega arith) in
    let x = take n s in
    let y = drop n s in
    let whole : x ++ y ≡ s = take-append-drop n s in
    let size = length-take-le n s first.0 in
    let long = longest_within (suc (length x)) x y (omega arith) first.1 in
    let none_behind : whole_frames y ≡ 0 = omega (arith, long, ap whole_frames whole, size) in
    let last : (k : ℕ) → first_frame y ≡ Whole k → ⊥ = λ k e. omega (arith, none_behind, whole_first y k e, (whole_within_lem y k e).0) in
    let left = (given replay rs x).left in
    let both : (given replay rs s).text ≡ (given replay rs x).text ++ (given replay left y).text =
    subst (λ (z : List ℕ). (given replay rs z).text ≡ (given replay rs x).text ++ (given replay left y).text) whole (cut rs x y first.1).0 in
    both ∙ ap (λ (z : List ℕ). (given replay rs x).text ++ z) ((nothing_whole left y last).0 ∙ left_is n s first.0)

pub recordings : Recordings
unfolding frames_of
recordings =
    record {
      one = replay_laws;
      frames = λ octets. frames_within_lem (suc (length octets)) octets (omega arith);
      none = whole_nothing;
      next = next_whole;
      singly = λ rs octets. singly_within (suc (length octets)) rs octets (omega arith);
      cut_text = λ rs x y w. (cut rs x y w).0;
      cut_list = λ rs x y w. (cut rs x y w).1;
      first = λ octets. first_within (suc (length octets)) octets (omega arith);
      longest = λ x y w. longest_within (suc (length x)) x y (omega arith) w;
      rest = rest-is;
    }
