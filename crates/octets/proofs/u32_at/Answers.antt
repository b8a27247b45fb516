-- `octets::u32_at` meets its contract. The library reads four octets so.
use Rattle.std.proofs.Common.{◌≡◌, ◌+◌, ◌∙◌, arith}
use Rattle.octets.specs.Numbers.{u16, u32}
use Rattle.octets.proofs.u32_at.Goals as goal

pub returns : goal.returns
unfolding u16 u32
returns c =
    let a = c.args.at in
    let e : a + 2 + 1 ≡ a + 3 = omega arith in
    (c.from_le_bytes.ensures ∙ rw e (omega arith), omega arith)
