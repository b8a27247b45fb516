-- `turns::turn` meets its contract. A whole unit lies within the octets at hand, and behind a part of one there is room.
use Prim.Native.Nat.{◌<◌}
use mathlib.Core.Path.{refl, sym, ◌∙◌}
use native.Mathlib.Omega.{arith}
use lib.ListN.{length}
use Rattle.buffers.specs.Held.{at_hand}
use Rattle.buffers.proofs.AtHand.{length-at_hand}
use Rattle.programs.proofs.Whole.{whole_within_lem}
use Rattle.turns.specs.Turns.{wrote, took, read, stopped}
use Rattle.turns.proofs.turn.Goals as goal

pub take-requires : goal.take-requires
take-requires c =
    let s = c.args.s in
    let input = c.args.input.now in
    let fits = whole_within_lem c.args.progress (at_hand s input) c.in-Whole.size (sym c.front.ensures.value ∙ c.in-Whole.is) in
    let held = c.requires.0 in
    let many = length-at_hand s input held c.requires.1 in
    record { held = (held, omega (arith, held.ordered, fits.1, many), fits.0, c.if-s-gt-MANY.false); input_len = (c.requires.1, c.requires.2, c.requires.3) }

pub more-led-requires : goal.more-led-requires
more-led-requires c =
    let s = c.args.s in
    let input = c.args.input.now in
    let short : length (at_hand s input) < 65535 = c.front.ensures.octets_len_bound c.in-Part.is in
    let held = c.requires.0 in
    let many = length-at_hand s input held c.requires.1 in
    (held, omega (arith, held.ordered, short, many), c.requires.1, c.requires.2)

pub returns-then-s-gt-MANY : goal.returns-then-s-gt-MANY
returns-then-s-gt-MANY c = (c.flush-led.ensures.0, wrote c.if-s-gt-MANY.true refl c.flush-led.ensures.1 refl)

pub returns-in-Whole : goal.returns-in-Whole
returns-in-Whole c =
    let t = c.take.ensures in
    (t.0, took c.if-s-gt-MANY.false c.in-Whole.size (sym c.front.ensures.value ∙ c.in-Whole.is) refl t.1)

pub returns-in-Part : goal.returns-in-Part
returns-in-Part c =
    let m = c.more-led.ensures in
    (m.0, read c.if-s-gt-MANY.false (sym c.front.ensures.value ∙ c.in-Part.is) m.1 refl)

pub returns-in-Wrong : goal.returns-in-Wrong
returns-in-Wrong c =
    (c.requires.0, stopped c.if-s-gt-MANY.false (sym c.front.ensures.value ∙ c.in-Wrong.is) refl refl refl refl)
