-- The parts of an LM ask for what the built-in table of LM asks for. The proof is proofs/Same.antt.
use Rattle.std.specs.Prelude.{◌≡◌}
use Rattle.encoding.specs.Rows.{asks}
use Rattle.builtin.specs.Tables.{lm}
use Rattle.lm_items.specs.Asked.{asked}
use Rattle.lm_items.specs.declared.Section.TheVariants.{Network}

pub record SameItems : Type 0 where
  pub same : asks lm ≡ asked Network
