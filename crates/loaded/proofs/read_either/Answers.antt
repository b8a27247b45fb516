-- `loaded::read_either` meets its contract. By the outcome that the state holds, and by the length of the message.
-- Assumes nothing.
use mathlib.Core.Path.{◌≡◌, ap, ◌∙◌}
use native.Mathlib.Omega.{arith}
use borrow.Author.Tests.{le-leb, lt-leb}
use lib.ListN.{length}
use Rattle.encoding.specs.Guarded.{guarded_root}
use Rattle.items.proofs.Messages.{message-empty}
use Rattle.loading.specs.State.{held_root, held_outcome}
use Rattle.loaded.proofs.Through.{through_none, through-held}
use Rattle.std.proofs.Common.{Err}
use Rattle.loaded.proofs.read_either.Goals as goal

pub returns-then-state-ne-PASSED : goal.returns-then-state-ne-PASSED
unfolding held_outcome
returns-then-state-ne-PASSED c =
    let a = c.args in
    rw (through_none a.state.now a.message.now a.room c.if-state-ne-PASSED.true) (ap Err c.at_place.ensures, tt, tt)

-- the state holds a table

pub returns-then-message-gt-MOST : goal.returns-then-message-gt-MOST
unfolding held_outcome
returns-then-message-gt-MOST c =
    let held : held_outcome c.args.state.now ≡ 1 = c.if-state-ne-PASSED.false in
    let a = c.args in
    rw (through-held a.state.now a.message.now a.room (held), lt-leb (length a.message.now) 65535 c.if-message-gt-MOST.true) (ap Err c.at_place-then-message-gt-MOST.ensures, tt, tt)

pub returns-then-message-eq0 : goal.returns-then-message-eq0
unfolding held_outcome
returns-then-message-eq0 c =
    let held : held_outcome c.args.state.now ≡ 1 = c.if-state-ne-PASSED.false in
    let a = c.args in
    let st = a.state.now in
    rw (through-held st a.message.now a.room (held) ∙ message-empty (guarded_root st (held_root st)) a.message.now a.room c.if-message-eq0.true) (ap Err c.at_place-then-message-eq0.ensures, tt, tt)

pub returns : goal.returns
unfolding held_outcome
returns c =
    let held : held_outcome c.args.state.now ≡ 1 = c.if-state-ne-PASSED.false in
    let a = c.args in
    rw (through-held a.state.now a.message.now a.room (held), le-leb (length a.message.now) 65535 (omega (arith, c.if-message-gt-MOST.false))) c.read_message.ensures
