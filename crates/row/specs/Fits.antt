-- A row that can be read at an offset of any octets: its start is there, its kind is known, it ends inside, and its count is one of its
-- kind's. Whether it keeps the other rules, and whether it starts where a row ends, plays no part. The contracts of the reader's steps ask for it.
use Rattle.std.specs.Prelude.{ℕ, ◌+◌, ◌≤◌, true, ◌≡◌, List, length}
use Rattle.octets.specs.Numbers.{u16}
use Rattle.row.specs.Rows.{within}
use Rattle.row.specs.Kinds.{length_of, least_count, most_count, count_of}

pub record Fits (t : List ℕ) (o : ℕ) : Type 0 where
  pub start : o + 4 ≤ length t
  pub known : within 1 8 (u16 t (o + 2)) ≡ true
  pub inside : o + length_of (u16 t (o + 2)) (count_of t o (u16 t (o + 2))) ≤ length t
  pub counted : within (least_count (u16 t (o + 2))) (most_count (u16 t (o + 2))) (count_of t o (u16 t (o + 2))) ≡ true
