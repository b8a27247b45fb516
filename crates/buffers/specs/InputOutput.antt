-- What a write of the lines and a read of the input lead to.
use Rattle.std.specs.Prelude.{ℕ, zero, suc, ◌+◌, ◌≡◌, Bool, true, false, List, [], ◌++◌, length, take}
use Rattle.buffers.specs.declared.State.{State}
use Rattle.buffers.specs.declared.Led.{Led}
use Rattle.buffers.specs.declared.Led.TheVariants.{Next, End, Lost}
use Rattle.buffers.specs.Held.{at_hand}

-- what is held once the lines are written
abbrev pub after_lines : State → State
after_lines s = record { from = s.from; end = s.end; lines = 0 }

-- What follows a write of the lines: the output took them all, or it takes no more, and the program gives up.
abbrev pub after_write : Bool → State → Led
after_write true s = Next (after_lines s)
after_write false s = Lost

-- The lines were handed to the output: nothing here says when it takes them.
abbrev pub Wrote : State → Led → Type 0
Wrote s r = (written : Bool) × (r ≡ after_write written s)

-- what is held once a count of octets came behind so many, which are the first of the input
abbrev pub read_to : State → ℕ → ℕ → State
read_to s have count = record { from = 0; end = have + count; lines = s.lines }

-- What follows a read: some octets came, or the input ended.
abbrev pub after_read : State → ℕ → ℕ → Led
after_read s have (suc count) = Next (read_to s have (suc count))
after_read s have zero = End (read_to s have zero)

-- Where the output took the lines, octets came behind those at hand, which are now the first of the input. Else nothing is read.
abbrev pub Came : Bool → State → List ℕ → List ℕ → List ℕ → Led → Type 0
Came true s input came input' r =
    (r ≡ after_read (after_lines s) (length (at_hand s input)) (length came)) × (take (length (at_hand s input) + length came) input' ≡ at_hand s input ++ came)
Came false s input came input' r = (r ≡ after_write false s) × (came ≡ []) × (input' ≡ input)

-- The lines were handed to the output, and then input was read.
abbrev pub Read : State → List ℕ → List ℕ → Led → Type 0
Read s input input' r = (written : Bool) × (came : List ℕ) × Came written s input came input' r
