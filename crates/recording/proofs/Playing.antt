-- Laws of the frames of a part, one played after another, and of the whole part.
use Prim.Native.Nat.{ℕ, ◌+◌, ◌-◌, ◌*◌, ◌≤◌}
use mathlib.Core.Path.{◌≡◌, sym, ap, ◌∙◌}
use mathlib.Core.List.{List, ◌++◌, append_assoc}
use native.Mathlib.Omega.{arith}
use lib.ListN.{length, take, drop, length-drop}
use lib.Seq.{drop-drop, length-take-le}
use Rattle.lines.specs.Text.{Appended}
use Rattle.machine.specs.declared.Front.{Front}
use Rattle.machine.specs.declared.Front.TheVariants.{Whole}
use Rattle.machine.specs.Machine.{Gives, unit, given}
use Rattle.house.specs.House.{first_frame, whole_frames}
use Rattle.house.proofs.Fronts.{whole_within_lem}
use Rattle.house.proofs.Wholes.{whole_first, whole_none, octets_behind}
use Rattle.seen.specs.declared.Seen.{Seen}
use Rattle.drive.specs.Replay.{frame_line, list_after, left_line, replay}
use Rattle.drive.proofs.Laws.{replay_laws, left_gives}
use Rattle.recording.specs.Frames.{PlayingUp, PlayedUp}

-- ---- frames up to an index

pub playing_none : (start : List Seen) (octets text : List ℕ) → PlayingUp start octets start 0 text 0
playing_none start octets text = record { within = omega arith; count = omega arith; short = omega arith; gives = λ rest left g. g }

module _ (start : List Seen) (octets : List ℕ) {seen : List Seen} {taken : ℕ} {text : List ℕ} {to : ℕ} (so : PlayingUp start octets seen taken text to) (size : ℕ)
    (whole : first_frame (drop taken octets) ≡ Whole size) where
  abbrev frame : List ℕ
  frame = take size (drop taken octets)

  frame-size : (4 ≤ size) × (taken + size ≤ length octets) × (length frame ≡ size)
  frame-size =
      let fits = whole_within_lem (drop taken octets) size whole in
      (fits.0, omega (arith, so.within, fits.1, length-drop taken octets), length-take-le size (drop taken octets) fits.1)

  playing_more : {text' : List ℕ} {to' : ℕ} → Appended text to (frame_line seen frame) text' to' → to' ≤ to + 2 * length frame + 8
      → PlayingUp start octets (list_after seen frame) (taken + size) text' to'
  playing_more {text'} {to'} line bound =
      record {
        within = frame-size.1;
        count = omega (arith, so.count, whole_first (drop taken octets) size whole, ap whole_frames (drop-drop size taken octets));
        short = omega (arith, so.short, frame-size.0, frame-size.2);
        gives = gives;
      }
    where
      gives : (rest : List ℕ) (left : List Seen) → Gives replay (list_after seen frame) (drop (taken + size) octets) rest left → Gives replay start octets (take to' text' ++ rest) left
      gives rest left g =
          let behind : Gives replay (list_after seen frame) (drop size (drop taken octets)) rest left = rw (drop-drop size taken octets) g in
          rw (line.told, append_assoc (take to text) (frame_line seen frame) rest) (so.gives (frame_line seen frame ++ rest) left (unit size whole behind))

-- ---- the frame at an index, as it is found and handed over

found : (octets : List ℕ) (at size : ℕ) {f : Front} → f ≡ first_frame (take (length octets - at) (drop at octets)) → f ≡ Whole size → first_frame (drop at octets) ≡ Whole size
found octets at size told e = sym (rw (octets_behind octets at) at told) ∙ e

pub same_frame : (octets : List ℕ) (at size : ℕ) → take (at + size - at) (drop at octets) ≡ take size (drop at octets)
same_frame octets at size =
    let k : at + size - at ≡ size = omega arith in
    rw k

module _ {start : List Seen} {octets : List ℕ} {seen : List Seen} {taken : ℕ} {text : List ℕ} {to : ℕ} (so : PlayingUp start octets seen taken text to) (size : ℕ)
    {f : Front} (told : f ≡ first_frame (take (length octets - taken) (drop taken octets))) (e : f ≡ Whole size) where
  pub frame_there : (4 ≤ size) × (taken + size ≤ length octets) × (length (take size (drop taken octets)) ≡ size)
  frame_there = frame-size start octets so size (found octets taken size told e)

  pub frame-played : {text' : List ℕ} {to' : ℕ} → Appended text to (frame_line seen (take size (drop taken octets))) text' to' → to' ≤ to + 2 * length (take size (drop taken octets)) + 8
      → PlayingUp start octets (list_after seen (take size (drop taken octets))) (taken + size) text' to'
  frame-played = playing_more start octets so size (found octets taken size told e)

-- ---- the whole part

module _ {start : List Seen} {octets : List ℕ} {seen : List Seen} {taken : ℕ} {text : List ℕ} {to : ℕ} {text' : List ℕ} {to' : ℕ}
    (played : PlayedUp start octets seen taken text to) (tail : Appended text to (left_line (drop taken octets)) text' to') where
  given_is : ((given replay start octets).text ≡ take to' text') × ((given replay start octets).left ≡ seen)
  given_is =
      let whole = played.playing.gives (left_line (drop taken octets)) seen (left_gives seen (drop taken octets) played.last) in
      let one = replay_laws.one start octets (given replay start octets).text (take to text ++ left_line (drop taken octets)) (given replay start octets).left seen (replay_laws.found start octets) whole in
      (one.0 ∙ sym tail.told, one.1)

  pub part_text : (given replay start octets).text ≡ take to' text'
  part_text = given_is.0

  pub part_list : (given replay start octets).left ≡ seen
  part_list = given_is.1

  pub part_taken : whole_frames octets ≡ taken
  part_taken = omega (arith, played.playing.count, whole_none (drop taken octets) played.last)
