-- `userdata::user_data` meets its contract. The part that was found, to the message's end.
-- Assumes nothing.
use Prim.Native.Nat.{◌-◌}
use mathlib.Core.Path.{◌≡◌, refl, sym, ap}
use native.Mathlib.Omega.{arith}
use native.Mathlib.Nat.{add_comm}
use lib.ListN.{length, take, drop}
use Rattle.userdata.proofs.Outcome.{found-ends}
use Rattle.userdata.proofs.user_data.Goals as goal

pub slice_bounds-result-count : goal.slice_bounds-result-count
slice_bounds-result-count c = omega (arith, found-ends c.args.message.now c.in-Ok.span (sym c.in-Ok.ensures))

pub slice_bounds-result-start : goal.slice_bounds-result-start
slice_bounds-result-start c = omega (arith, found-ends c.args.message.now c.in-Ok.span (sym c.in-Ok.ensures))

pub returns : goal.returns
returns c =
    let a = c.args.message in
    let s = a.now in
    let span = c.in-Ok.span in
    let e = sym c.in-Ok.ensures in
    let k : length s - span.start.0 ≡ span.length.0 = omega (arith, found-ends s span e) in
    rw e (ap (λ k. take k (drop span.start.0 s)) k, refl, add_comm span.start.0 a.ref_ptr.1)
