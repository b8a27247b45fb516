-- `lm_strings::section_strings` meets its contract. The strings that were counted, and nothing behind them.
-- Assumes nothing.
use mathlib.Core.Path.{sym}
use Rattle.answer.proofs.Exits.{exit}
use Rattle.items.specs.Items.{stop, times}
use Rattle.items.proofs.Runs.{then-stop}
use Rattle.read_steps.proofs.Flow.{continues-trans, continues_same}
use Rattle.lm_items.specs.Asked.{string_items, strings_items}
use Rattle.lm_strings.proofs.section_strings.Goals as goal

pub returns-in_err-left : goal.returns-in_err-left
returns-in_err-left c =
    let a = c.args in
    rw (exit _ c.from_residual.ensures.1) ((continues_same (sym (then-stop (strings_items a.kind a.extended)))).complete _ _ _ (c.in_err-left.ensures stop))

pub returns : goal.returns
returns c =
    let a = c.args in
    (continues-trans (continues_same (sym (then-stop (strings_items a.kind a.extended))))
    (continues-trans (c.in_ok-left.ensures.0 stop) (continues_same (then-stop (times _ (string_items a.kind)))))).complete _ _ _ c.strings.ensures
