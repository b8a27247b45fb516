-- `window::raised` meets its contract. A shift that stays within 40 bits loses nothing of 64.
use native.Mathlib.Omega.{arith}
use lib.Pow.{shl_exact}
use Rattle.window.proofs.raised.Goals as goal

pub returns : goal.returns
returns c = shl_exact c.args.k c.args.below 64 c.requires.0 (omega arith)
