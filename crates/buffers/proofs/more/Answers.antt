-- Where the output took the lines, what is read comes behind the octets at hand, which are moved to the front; where not, nothing is touched.
use Prim.Native.Nat.{◌-◌}
use mathlib.Core.Path.{◌≡◌, refl, ◌∙◌}
use mathlib.Core.Bool.{Bool, true, false}
use mathlib.Core.List.{[]}
use native.Mathlib.Omega.{arith}
use lib.ListN.{take, drop}
use Rattle.buffers.specs.declared.State.{State}
use Rattle.buffers.specs.declared.Led.{Led}
use Rattle.buffers.specs.declared.Led.TheVariants.{Next}
use Rattle.buffers.specs.InputOutput.{after_lines, after_write}
use Rattle.buffers.proofs.AtHand.{at_front, read_behind}
use Rattle.buffers.proofs.more.Goals as goal

-- what follows a write is `Next` where the output took the lines, and only there
gave-up : (written : Bool) (s : State) {r : Led} → r ≡ after_write written s → ((next : State) → r ≡ Next next → ⊥) → r ≡ after_write false s
gave-up true s is other = absurd (other (after_lines s) is)
gave-up false s is other = is

went_on : (written : Bool) (s : State) {r : Led} {next : State} → r ≡ after_write written s → r ≡ Next next → next ≡ after_lines s
went_on true s is e = cc
went_on false s is e = cc

pub returns-in_default : goal.returns-in_default
returns-in_default c =
    let flushed = c.flush-flushed.ensures in
    (flushed.0, (false, [], (gave-up flushed.1.0 c.args.s flushed.1.1 c.in_default.not-Next, refl, refl)))

pub returns : goal.returns
returns c =
    let s = c.args.s in
    let have = s.end - s.from in
    let front : take have c.copy_within.new.self ≡ take have (drop s.from c.args.input.now) = rw c.copy_within.ensures.after (at_front c.args.input.now s.from have (omega (arith, c.requires))) in
    let flushed = c.flush-flushed.ensures.1 in
    let input = c.read_behind-count.new.input in
    let count = c.read_behind-count.result in
    let got = read_behind s c.args.input.now c.copy_within.new.self input count c.requires.0 c.requires.2 (c.read_behind-count.auto.input ∙ c.copy_within.ensures.len ∙ c.requires.2) front c.read_behind-count.ensures.kept (omega (arith, c.read_behind-count.ensures.within)) in
    rw (c.after_read.ensures, went_on flushed.0 s flushed.1 c.in-Next.is) (got.0, (true, take count (drop have input), got.1))
