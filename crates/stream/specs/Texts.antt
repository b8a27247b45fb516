-- The texts of the bench program and of the capture program: any octets have one, and one only, and an input cut after a whole unit gives
-- the same lines as the whole (Laws); the papers' example and a worked capture file have theirs.
use Rattle.std.specs.Prelude.{ℕ, List, [], ◌∷◌}
use Rattle.machine.specs.Counts.{nothing}
use Rattle.machine.specs.Machine.{Gives, Laws}
use Rattle.frames.specs.Frames.{bench}
use Rattle.pcap.specs.declared.Order.{Order}
use Rattle.stages.specs.declared.Stage.TheVariants.{Opening, Records}
use Rattle.captures.specs.Captures.{capture}
use Rattle.captures.specs.Worked.{worked_file, worked_text}
use Rattle.programs.specs.Programs.{Apart}

-- document 01's example of the bench program: its two frames, and its three lines
abbrev pub example_frames : List ℕ
example_frames = 0x0a ∷ 0x00 ∷ 0x01 ∷ 0x00 ∷ 0x03 ∷ 0x00 ∷ 0x20 ∷ 0x02 ∷ 0x48 ∷ 0x69 ∷ 0x05 ∷ 0x00 ∷ 0x01 ∷ 0x00 ∷ 0x03 ∷ []

abbrev pub example_text : List ℕ
example_text =
    111 ∷ 107 ∷ 32 ∷ 57 ∷ 58 ∷ 32 ∷ 48 ∷ 32 ∷ 48 ∷ 32 ∷ 51 ∷ 32 ∷ 48 ∷ 32 ∷ 48 ∷ 32 ∷ 51 ∷ 50 ∷ 32 ∷ 50 ∷ 32 ∷ 55 ∷ 50 ∷ 32 ∷ 49 ∷ 48 ∷ 53 ∷ 10
    ∷ 110 ∷ 111 ∷ 32 ∷ 50 ∷ 32 ∷ 97 ∷ 116 ∷ 32 ∷ 56 ∷ 10
    ∷ 102 ∷ 114 ∷ 97 ∷ 109 ∷ 101 ∷ 115 ∷ 32 ∷ 50 ∷ 10 ∷ []

-- what the examples print, and what came before when they end
pub record Examples : Type 0 where
  pub frames : Gives bench nothing example_frames example_text (record { octets = 15; units = 2 })
  pub file : (order : Order) → Gives capture Opening (worked_file order) worked_text (Records order (record { octets = 139; units = 4 }))

pub record Texts : Type 0 where
  pub bench : Laws bench
  pub capture : Laws capture
  pub apart : Apart
  pub examples : Examples
