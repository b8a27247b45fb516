-- Replaying a drive (document 02, ticket 8), for every recording and every list of seen records: the list afterwards is what the same calls made
-- singly give, and a recording that is cut after a whole frame gives the same lines and the same list as the whole. The proofs are in
-- proofs/Recordings.antt; the text of a recording and the list that it leaves are `given replay` (drive's specs/Replay.antt).
use Rattle.std.specs.Prelude.{ℕ, zero, suc, ◌+◌, ◌≤◌, cond, ◌≡◌, List, [], ◌∷◌, ◌++◌, leb, eqb, length, take, drop}
use Rattle.octets.specs.Numbers.{u16}
use Rattle.machine.specs.declared.Front.{Front}
use Rattle.machine.specs.declared.Front.TheVariants.{Whole, Part, Wrong}
use Rattle.machine.specs.Machine.{Laws, joined, given}
use Rattle.house.specs.House.{first_frame, whole_frames}
use Rattle.seen.specs.declared.Seen.{Seen}
use Rattle.forwarded.specs.Sequence.{Call, after}
use Rattle.drive.specs.Replay.{heard_kind, heard_header, time_of, message_of, any_frame, bad_frame, replay}

-- ── the calls of a recording ──

-- its frames, one after another, up to one that is wrong or isn't whole
abbrev pub frames_by : List ℕ → Front → (ℕ → List (List ℕ)) → List (List ℕ)
frames_by s (Whole size) behind = take size s ∷ behind size
frames_by s Part behind = []
frames_by s Wrong behind = []

unfoldable pub frames_within : ℕ → List ℕ → List (List ℕ)
frames_within zero s = []
frames_within (suc most) s = frames_by s (first_frame s) (λ size. frames_within most (drop size s))

unfoldable pub frames_of : List ℕ → List (List ℕ)
frames_of s = frames_within (suc (length s)) s

-- the call of a frame, before other calls: forwarding its message at its time, with room for any frame. A frame of another kind, and one that is too
-- short, make none
abbrev pub with_call : List ℕ → List Call → List Call
with_call frame calls =
    cond (eqb (u16 frame 2) heard_kind)
    (cond (leb heard_header (length frame)) (record { message = message_of frame; time = time_of frame; room = any_frame } ∷ calls) calls)
    calls

unfoldable pub calls_of : List (List ℕ) → List Call
calls_of [] = []
calls_of (frame ∷ frames) = with_call frame (calls_of frames)

-- ── where a recording may be cut ──

-- octets that are whole frames and nothing else
abbrev pub WholeFrames : List ℕ → Type 0
WholeFrames x = whole_frames x ≡ length x

pub record Recordings : Type 0 where
  -- any octets and any list have a text and leave a list, these and no others
  pub one : Laws replay
  -- the frames are the whole ones that octets begin with, in their order
  pub frames : (octets : List ℕ) → joined (frames_of octets) ≡ take (whole_frames octets) octets
  -- the list is what the same calls made singly leave
  pub singly : (rs : List Seen) (octets : List ℕ) → (given replay rs octets).left ≡ after rs (calls_of (frames_of octets))
  -- a recording cut after whole frames, the second part going on from the list that the first leaves: the same lines and the same list as the whole
  pub cut_text : (rs : List Seen) (x y : List ℕ) → WholeFrames x
      → (given replay rs (x ++ y)).text ≡ (given replay rs x).text ++ (given replay (given replay rs x).left y).text
  pub cut_list : (rs : List Seen) (x y : List ℕ) → WholeFrames x
      → (given replay rs (x ++ y)).left ≡ (given replay (given replay rs x).left y).left
  -- such a first part is nothing, and each with the next whole frame behind it
  pub none : WholeFrames []
  pub next : (x y : List ℕ) (size : ℕ) → WholeFrames x → first_frame y ≡ Whole size → WholeFrames (x ++ take size y)
  -- the whole frames that octets begin with are one, and the longest
  pub first : (octets : List ℕ) → (whole_frames octets ≤ length octets) × WholeFrames (take (whole_frames octets) octets)
  pub longest : (x y : List ℕ) → WholeFrames x → whole_frames (x ++ y) ≡ length x + whole_frames y
  -- what is behind them gives `bad frame`, where it isn't nothing
  pub rest : (rs : List Seen) (octets : List ℕ) → (given replay rs octets).text ≡ (given replay rs (take (whole_frames octets) octets)).text
      ++ cond (eqb (whole_frames octets) (length octets)) [] bad_frame
