-- The worked drive, by computation: eleven frames, and three octets that are left.
use mathlib.Core.Path.{refl}
use Rattle.octets.specs.Numbers.{u16, u32}
use Rattle.bits.specs.Bits.{number_of, bits_of, unpack, pack}
use Rattle.lines.specs.Text.{decimal_within, decimal, number_line, placed_line, refused_line}
use Rattle.machine.specs.Machine.{Gives, unit, end, given}
use Rattle.house.specs.House.{first_frame}
use Rattle.hexadecimal.specs.Hex.{hex}
use Rattle.forward.specs.Forward.{subtype, version, message_id, hop_count, forward_answer, lowered}
use Rattle.drive.specs.Replay.{frame_line, list_after, replay, empty_list}
use Rattle.drive.proofs.Laws.{replay_laws}
use Rattle.replayed.specs.Worked.{worked_drive, worked_text, worked_list, WorkedDrive}

played : Gives replay empty_list worked_drive worked_text worked_list
unfolding worked_drive worked_text worked_list first_frame frame_line list_after forward_answer lowered subtype version message_id hop_count hex refused_line placed_line number_line decimal decimal_within u16 u32 number_of bits_of unpack pack
played = unit 18 refl (unit 18 refl (unit 10 refl (unit 13 refl (unit 12 refl (unit 14 refl (unit 8 refl (unit 6 refl (unit 18 refl (unit 18 refl (unit 12 refl (end refl)))))))))))

pub worked_drive_lem : WorkedDrive
worked_drive_lem =
    let is = replay_laws.one empty_list worked_drive (given replay empty_list worked_drive).text worked_text (given replay empty_list worked_drive).left worked_list (replay_laws.found empty_list worked_drive) played in
    record { text = is.0; list = is.1 }
