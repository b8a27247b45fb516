use Rattle.table.proofs.Obeyed.{row-starts_inside}
use Rattle.write_begin.proofs.follow.Goals as goal

pub kind_at-requires : goal.kind_at-requires
kind_at-requires c = (row-starts_inside c.requires.0 c.loop-output.invariant.0).0
