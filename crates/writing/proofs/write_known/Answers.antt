-- `writing::write_known` meets its contract. The part of the output that counts; then zeros to its real end.
-- Assumes nothing.
use Prim.Native.Nat.{min}
use mathlib.Core.Path.{◌≡◌, ap, ◌∙◌, subst}
use mathlib.Core.List.{◌++◌}
use native.Mathlib.Omega.{arith}
use lib.ListN.{length, take, drop, length-take, length-drop, length-append}
use Rattle.encoding.specs.Rows.{asks}
use Rattle.items.specs.Writing.{WriteOutcome, encode, write_answer, write_octets}
use Rattle.write_steps.specs.Writes.{list_in}
use Rattle.write_steps.specs.Ends.{WrittenBy, written_count}
use Rattle.write_steps.proofs.Ends.{counted-output, written_is, settled-output}
use Rattle.writing.proofs.Passed.{write-passed}
use Rattle.writing.proofs.write_known.Goals as goal

pub returns : goal.returns
returns c =
    let a = c.args in
    let t = a.table.now in
    let list = list_in a.values.now a.packed.now in
    let old = a.output.now in
    let n = length old in
    let most = c.counted_length-most.result in
    let new = c.write_root-answer.new.output in
    let outcome = encode (asks t) list n in
    let lt : length (take most old) ≡ min n 65535 = length-take most old ∙ omega (arith, c.counted_length-most.ensures) in
    let counted = counted-output (asks t) list n (length (take most old)) lt in
    let answer = c.write_root-answer.ensures.0 ∙ ap write_answer counted in
    let stands : WrittenBy outcome new = subst (λ (x : WriteOutcome). WrittenBy x new) counted c.write_root-answer.ensures.1 in
    let whole : length (new ++ drop most old) ≡ n = length-append new (drop most old) ∙ omega (arith, c.write_root-answer.auto.output, lt, length-drop most old) in
    let k : c.written_count-written.result ≡ length (write_octets outcome) = c.written_count-written.ensures ∙ ap written_count answer ∙ written_is outcome in
    rw (write-passed t list n c.requires.0) (answer, c.clear.ensures ∙ rw k (settled-output outcome new (drop most old) n whole stands))
