-- `recording::play_frames` meets its contract: one frame more is played.
use mathlib.Core.Path.{◌∙◌}
use native.Mathlib.Omega.{arith}
use Rattle.recording.proofs.Playing.{same_frame, frame_there, frame-played}
use Rattle.recording.proofs.play_frames.Goals as goal

pub slice_bounds-play-end : goal.slice_bounds-play-end
slice_bounds-play-end c =
    let fits = frame_there c.loop-size.invariant.1 c.in-Whole.size c.front.ensures.value c.in-Whole.is in
    omega (arith, fits.1)

pub play-played-requires : goal.play-played-requires
play-played-requires c =
    let size = c.in-Whole.size in
    let fits = frame_there c.loop-size.invariant.1 size c.front.ensures.value c.in-Whole.is in
    let most = c.front.ensures.octets_len_bound.1 size c.in-Whole.is in
    rw (same_frame c.args.octets.now c.loop-size.taken size, fits.2)
    (fits.0, most, omega (arith, c.loop-size.invariant.0, c.loop-size.invariant.1.short, fits.1, c.requires))

pub loop-size-smaller : goal.loop-size-smaller
loop-size-smaller c =
    let fits = frame_there c.loop-size.invariant.1 c.in-Whole.size c.front.ensures.value c.in-Whole.is in
    omega (arith, fits.0, fits.1)

pub loop-size-preserved : goal.loop-size-preserved
loop-size-preserved c =
    let size = c.in-Whole.size in
    let same = same_frame c.args.octets.now c.loop-size.taken size in
    let line = rw same at c.play-played.ensures.seen_value in
    let more = frame-played c.loop-size.invariant.1 size c.front.ensures.value c.in-Whole.is line.1 (rw same at c.play-played.ensures.end_bound) in
    (c.play-played.auto.out ∙ c.loop-size.invariant.0, rw line.0 more)
