-- `reading::read_passed` meets its contract. By the length of the message.
-- Assumes nothing.
use native.Mathlib.Omega.{arith}
use lib.ListN.{length}
use borrow.Author.Tests.{le-leb, lt-leb}
use Rattle.encoding.specs.Rows.{asks}
use Rattle.items.proofs.Messages.{message-empty}
use mathlib.Core.Path.{ap}
use Rattle.std.proofs.Common.{Err}
use Rattle.reading.proofs.read_passed.Goals as goal

pub returns-then-message-gt-MOST : goal.returns-then-message-gt-MOST
returns-then-message-gt-MOST c =
    let a = c.args in
    rw (lt-leb (length a.message.now) 65535 c.if-message-gt-MOST.true) (ap Err c.at_place.ensures, tt, tt)

pub returns-then-message-eq0 : goal.returns-then-message-eq0
returns-then-message-eq0 c =
    let a = c.args in
    rw (message-empty (asks a.table.now) a.message.now a.room c.if-message-eq0.true) (ap Err c.at_place-then-message-eq0.ensures, tt, tt)

pub returns : goal.returns
returns c =
    let a = c.args in
    rw (le-leb (length a.message.now) 65535 (omega arith)) c.read_message.ensures
