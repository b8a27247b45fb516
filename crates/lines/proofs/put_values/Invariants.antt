-- `lines::put_values` meets its contract. The invariant: the values passed are put, a space before each, and there is room for those to come.
use Rattle.std.proofs.Common.{◌+◌, ◌*◌, ◌≤◌, ◌≡◌, ◌++◌, map, length, take, Bor, ℤ}
use Rattle.lines.specs.Text.{Appended, listed}
use Rattle.lines.proofs.put_values.Given as goal

abbrev pub invariant-loop-value : goal.invariant-loop-value
invariant-loop-value l =
    record {
      order : map (λ (x : Bor ℤ). x.now) l.yielded ++ take l.value-iterator.n l.value-iterator.iter.rest.now ≡ take l.count l.values;
      room : l.next + 22 * length (take l.value-iterator.n l.value-iterator.iter.rest.now) ≤ l.at + 22 * length l.values;
      put : Appended l.initial.out l.at (listed (map (λ (x : Bor ℤ). x.now) l.yielded)) l.out l.next;
    }
