-- `recording::replay_whole` meets its contract: the frames of the part, what is told of the octets behind them, and zeros.
use mathlib.Core.Path.{◌≡◌, refl, ◌∙◌}
use native.Mathlib.Omega.{arith}
use lib.ListN.{length, take}
use lib.Seq.{length-take-le}
use Rattle.house.proofs.Wholes.{octets_behind}
use Rattle.recording.proofs.Playing.{part_text, part_list, part_taken}
use Rattle.recording.proofs.replay_whole.Goals as goal

pub returns : goal.returns
returns c =
    let played = c.play_frames-taken.ensures in
    let tail = rw (octets_behind c.args.octets.now c.play_frames-taken.result.taken) at c.put_left-end.ensures.appended in
    let text = c.put_left-end.new.out in
    let end = c.put_left-end.result in
    let many : length text ≡ length c.args.text.now = c.put_left-end.auto.out ∙ c.play_frames-taken.auto.text in
    let size : length (take end text) ≡ end = length-take-le end text (omega (arith, many, c.put_left-end.ensures.upper_bound, played.playing.short, played.playing.within, c.requires)) in
    rw (part_text played tail, part_list played tail, part_taken played tail, size, ← many) (rw c.new.ensures refl, c.clear.ensures)
