-- The texts of the programs: the laws of machines, and the examples by computing them.
use mathlib.Core.Path.{refl}
use Rattle.octets.specs.Numbers.{u16, u32, signed, u16s, there}
use Rattle.bits.specs.Bits.{number_of, bits_of, width, unpack}
use Rattle.row.specs.Offsets.{earlier, up_to, by_offset}
use Rattle.row.specs.Rows.{row_of, row_at, row_length, within}
use Rattle.rules.specs.Rules.{known_kind, flags_in_bounds, numbers_in_bounds, branches, references, some_branch, has_branch}
use Rattle.rules.specs.Tests.{row_depth, row_verdict}
use Rattle.table.specs.Verdict.{verdict}
use Rattle.table.specs.Root.{root_from, root}
use Rattle.items.specs.Items.{one, times}
use Rattle.encoding.specs.Rows.{presence, fields, row_items, items, asks}
use Rattle.encoding.specs.Reading.{read_outcome}
use Rattle.builtin.specs.Tables.{lm}
use Rattle.lm.specs.ByName.{lm_version, lm_subtype, read_lm_outcome}
use Rattle.lines.specs.Text.{decimal_within, decimal, signed as signed_text, listed, number_line, placed_line, accepted_line, refused_line}
use Rattle.machine.specs.Machine.{Gives, unit, end}
use Rattle.frames.specs.Frames.{first_frame, message_line}
use Rattle.frames.proofs.Fronts.{bench_laws}
use Rattle.pcap.specs.declared.Order.{Order}
use Rattle.pcap.specs.declared.Order.TheVariants.{Little, Big}
use Rattle.pcap.specs.Pcap.{word}
use Rattle.stages.specs.declared.Stage.TheVariants.{Opening, Records}
use Rattle.captures.specs.Captures.{capture}
use Rattle.captures.specs.Worked.{worked_file, worked_text}
use Rattle.captures.proofs.Steady.{capture_laws}
use Rattle.programs.proofs.Whole.{programs-apart}
use Rattle.stream.specs.Texts.{Examples, Texts}

either_order : (P : Order → Type 0) → P Little → P Big → (order : Order) → P order
either_order P little big Little = little
either_order P little big Big = big

-- the units are two frames; and the file's header with four records
examples : Examples
unfolding first_frame message_line word lm lm_version lm_subtype read_lm_outcome read_outcome asks items row_items fields presence times one root_from root verdict row_verdict row_depth has_branch some_branch references branches numbers_in_bounds flags_in_bounds within known_kind row_length row_at row_of earlier up_to by_offset there unpack width bits_of number_of u16 u32 signed u16s decimal_within decimal signed_text listed number_line placed_line accepted_line refused_line
examples =
    record {
      frames = unit 10 refl (unit 5 refl (end refl));
      file =
          either_order (λ order. Gives capture Opening (worked_file order) worked_text (Records order (record { octets = 139; units = 4 })))
          (unit 24 refl (unit 36 refl (unit 32 refl (unit 31 refl (unit 16 refl (end refl))))))
          (unit 24 refl (unit 36 refl (unit 32 refl (unit 31 refl (unit 16 refl (end refl))))));
    }

pub texts : Texts
texts = record { bench = bench_laws; capture = capture_laws; apart = programs-apart; examples = examples }
