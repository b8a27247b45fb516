-- The demands as they are proved, in one place; the proof is proofs/Demands.antt. Each name below is a record; those of the
-- demands have their sentences as fields, one by one. docs/CLAIMS.md goes through the customer's words and names the field for each.
--
-- Demand 1 is the contracts of the calls: none has a `requires`, and each says its answer and what every lent slice then holds.
-- docs/CLAIMS.md lists them, and a test holds the list to the sources.
-- The theorems here are about the definitions that those contracts cite (read_call, write_call, values_after, packed_after,
-- output_after, read_lm_call, write_lm_call, user_data_found, verdict, loaded_by, through_state, forward_answer, seen_after, forward_output) and
-- about the rules of documents 01 and 02, which mention no code.
-- Document 01 is meant as document 02's landed tickets change it: kinds of rows are 1 to 8.
--
-- Beside it stands what is said of the programs' texts: Texts, in stream's specs/Texts.antt.
use Rattle.std.specs.Prelude.{ℕ, List}
use Rattle.bits.specs.Width.{SmallestWidth}
use Rattle.values.specs.TwosComplement.{TwosComplement}
use Rattle.answer.specs.Numbers.{Inverse}
use Rattle.item.specs.Code.{Code}
use Rattle.item.specs.Laws.{ItemLaws}
use Rattle.item.specs.Ranges.{ItemRanges}
use Rattle.item.specs.Widths.{ItemWidths}
use Rattle.rules.specs.Depths.{Depths}
use Rattle.table.specs.Checks.{Checks}
use Rattle.table.specs.Cases.{TablesGiven}
use Rattle.table.specs.Summary.{Summaries}
use Rattle.encoding.specs.Demand2.{Demand2}
use Rattle.items.specs.Items.{Items}
use Rattle.items.specs.Filled.{FilledUp, ZerosAfter}
use Rattle.items.specs.Numbered.{ReadingNumbered}
use Rattle.encoding.specs.Demand3.{AreOctets, Demand3}
use Rattle.encoding.specs.Demand3Octets.{Demand3Octets}
use Rattle.encoding.specs.UnderTable.{UnderTable}
use Rattle.encoding.specs.OpenOctets.{OpenOctets}
use Rattle.encoding.specs.Guarded.{Bounded, Sound}
use Rattle.loading.specs.Sequence.{Sequences, AnyStates}
use Rattle.visits.specs.Visits.{Visits}
use Rattle.visits.specs.Reached.{Reached}
use Rattle.builtin.specs.Built.{BuiltIn}
use Rattle.lm.specs.Demand3Lm.{Demand3Lm}
use Rattle.lm.specs.Demand2.{Demand2Lm}
use Rattle.lm.specs.UserData.{UserDataPlace}
use Rattle.lm.specs.Cases.{Given}
use Rattle.userdata.specs.Placed.{UserDataPlaced}
use Rattle.userdata.specs.Cases.{UserDataCases}
use Rattle.lm_items.specs.Same.{SameItems}
use Rattle.forwarded.specs.Steps.{Steps}
use Rattle.forwarded.specs.Sequence.{AnySequence}
use Rattle.forwarded.specs.OfLm.{OfLm}
use Rattle.forwarded.specs.Cases.{ForwardingCases}
use Rattle.told.specs.Told.{SixNumbers}

pub record Demands : Type 1 where
  -- ── demand 2 ──
  -- under any octets that are lent as a table and obey the rules
  pub rows : (t : List ℕ) → Demand2 t
  -- for an LM: it is the layout of clause 5
  pub layout : Demand2Lm
  -- ── demand 3 ──
  -- for any octets that are lent as a table, with the tables of SAM and SRM among them
  pub every_table : (t : List ℕ) → Demand3 t
  -- the same for lists as octets, as a host has them
  pub in_octets : (t : List ℕ) → AreOctets t → Demand3Octets t
  -- for an LM asked for by name, with version 3
  pub an_lm : Demand3Lm
  -- ── document 01's own sentences behind them ──
  -- an answer is what its number, place and counts are, and nothing else; a host is told them as six numbers
  pub answers : Inverse
  pub numbers : SixNumbers
  -- the answer followed by zeros
  pub filled : FilledUp
  pub zeros : ZerosAfter
  -- what a row's depth is
  pub depths : (t : List ℕ) → Depths t
  -- the bits of each kind of item: which values, how many bits, and that one can be told from the other
  pub ranges : ItemRanges
  pub width : SmallestWidth
  pub widths : ItemWidths
  pub items : (c : Code) → ItemLaws c
  -- a host's eight octets for a value
  pub octets : TwosComplement
  -- the three built-in tables pass, and are the rows that are listed
  pub built_in : BuiltIn
  -- the user data of an LM: where it stands, and what its calls give
  pub user_data_place : UserDataPlace
  pub user_data : UserDataPlaced
  -- the papers' cases, and where the user data stands in those that are LMs
  pub cases : Given
  pub user_data_cases : UserDataCases
  -- ── document 02, ticket 1 ──
  -- what the check finds in any octets; where they break a rule as a table, which row and which part of it
  pub tables : (t : List ℕ) → Checks t
  -- that reading and writing under them answer the same
  pub under_tables : (t : List ℕ) → UnderTable t
  -- the corners, computed
  pub table_cases : TablesGiven
  -- ── document 02, ticket 2 ──
  -- open octets, kind 8, are octets, kind 7, but for a most or a length of 0: under the check, in lists and bits, read and written
  pub open_octets : (t : List ℕ) (o : ℕ) (g : ℕ → Items) → OpenOctets t o g
  -- ── document 02, ticket 3 ──
  -- after any sequence of loads and reads from a fresh state: what it holds, and what reading through it comes to
  pub loaded : Sequences
  -- of a state made otherwise demand 1 holds: the refusals that reading through it can give
  pub any_states : AnyStates
  -- what rows of a state ask for is what those of its table do; what is kept of a table beside its octets
  pub sound : Sound
  -- and no more than 32 rows of it are read inside one another, whatever it holds
  pub bounded : Bounded
  pub summaries : Summaries
  -- the numbers with which reading refuses, whatever items are asked for
  pub reading_numbers : ReadingNumbered
  -- ── document 02, ticket 4 ──
  -- the sections of an LM, which the reader without a table takes one by one, ask for what the table of LM asks for
  pub plain : SameItems
  -- ── document 02, ticket 7 ──
  -- forwarding: which messages go on, what changes in one and in the list of seen records
  pub forwarding : Steps
  -- after any sequence of calls over one list: a live record stays, and an ID that was forwarded is refused
  pub forwarded_once : AnySequence
  -- an N-hop LM that is forwarded is the LM with a hop count one lower, and is read by name as before
  pub forwarded_lm : OfLm
  -- the corners, computed
  pub forwarding_cases : ForwardingCases
  -- ── beside the demands ──
  -- how many rows are visited at most, counted over the definitions, and that it may be so many
  pub visits : (t : List ℕ) → Visits t
  pub visits_reached : Reached
