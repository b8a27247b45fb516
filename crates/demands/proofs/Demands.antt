-- The demands, gathered from their proofs.
-- Assumes nothing.
use Rattle.bits.proofs.Width.{smallest-width}
use Rattle.values.proofs.TwosComplement.{twos-complement}
use Rattle.answer.proofs.Numbers.{inverse}
use Rattle.item.proofs.CodeLaws.{item_laws}
use Rattle.item.proofs.Ranges.{item-ranges}
use Rattle.item.proofs.Widths.{item-widths}
use Rattle.rules.proofs.Depths.{depths}
use Rattle.table.proofs.Checks.{checks}
use Rattle.table.proofs.Cases.{tables-given}
use Rattle.table.proofs.Summary.{summaries}
use Rattle.encoding.proofs.Demand2.{demand2}
use Rattle.items.proofs.Filled.{filled_up, zeros_after}
use Rattle.items.proofs.Numbered.{reading-numbered}
use Rattle.encoding.proofs.Demand3.{demand3}
use Rattle.encoding.proofs.Demand3Octets.{demand3-octets}
use Rattle.encoding.proofs.UnderTable.{under_table}
use Rattle.encoding.proofs.OpenOctets.{open-octets}
use Rattle.encoding.proofs.Guarded.{bounded, sound}
use Rattle.loading.proofs.Sequence.{sequences, any-states}
use Rattle.visits.proofs.Visits.{visits}
use Rattle.visits.proofs.Reached.{reached}
use Rattle.builtin.proofs.Tables.{built_in_lem}
use Rattle.lm.proofs.Demand3Lm.{demand3-lm}
use Rattle.lm.proofs.Demand2.{demand2-lm}
use Rattle.lm.proofs.UserData.{user-data-place}
use Rattle.lm.proofs.Cases.{given}
use Rattle.userdata.proofs.Placed.{user-data-placed}
use Rattle.userdata.proofs.Cases.{user-data-cases}
use Rattle.lm_items.proofs.Same.{same_items}
use Rattle.forwarded.proofs.Steps.{steps}
use Rattle.forwarded.proofs.Sequence.{any-sequence}
use Rattle.forwarded.proofs.OfLm.{of_lm}
use Rattle.forwarded.proofs.Cases.{forwarding-cases}
use Rattle.told.proofs.SixNumbers.{six-numbers}
use Rattle.demands.specs.Demands.{Demands}

pub demands : Demands
demands = record {
  rows = demand2;
  layout = demand2-lm;
  every_table = demand3;
  in_octets = demand3-octets;
  an_lm = demand3-lm;
  answers = inverse;
  numbers = six-numbers;
  filled = filled_up;
  zeros = zeros_after;
  tables = checks;
  under_tables = under_table;
  table_cases = tables-given;
  open_octets = open-octets;
  loaded = sequences;
  any_states = any-states;
  sound = sound;
  bounded = bounded;
  summaries = summaries;
  reading_numbers = reading-numbered;
  plain = same_items;
  forwarding = steps;
  forwarded_once = any-sequence;
  forwarded_lm = of_lm;
  forwarding_cases = forwarding-cases;
  depths = depths;
  ranges = item-ranges;
  width = smallest-width;
  widths = item-widths;
  items = item_laws;
  octets = twos-complement;
  built_in = built_in_lem;
  user_data_place = user-data-place;
  user_data = user-data-placed;
  cases = given;
  user_data_cases = user-data-cases;
  visits = visits;
  visits_reached = reached;
}
