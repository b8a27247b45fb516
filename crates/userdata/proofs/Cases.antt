-- Where the user data of document 01's marked LMs stands comes out of the definitions, by computation.
-- Assumes nothing.
use mathlib.Core.Path.{refl}
use Rattle.octets.specs.Numbers.{u16, u32, signed, u16s, there}
use Rattle.bits.specs.Bits.{number_of, bits_of, width, unpack}
use Rattle.row.specs.Offsets.{earlier, up_to, by_offset}
use Rattle.row.specs.Rows.{row_of, row_at, row_length}
use Rattle.table.specs.Root.{root_from, root}
use Rattle.items.specs.Items.{one, times}
use Rattle.encoding.specs.Rows.{presence, fields, row_items, items, asks}
use Rattle.builtin.specs.Tables.{lm}
use Rattle.lm.specs.ByName.{lm_version, lm_subtype, read_lm_outcome}
use Rattle.userdata.specs.UserData.{headers, data_length, user_data_found}
use Rattle.userdata.specs.Cases.{UserDataCases}

pub user-data-cases : UserDataCases
unfolding lm lm_version lm_subtype read_lm_outcome headers data_length user_data_found asks items row_items fields presence times one root_from root row_length row_at row_of earlier up_to by_offset there unpack width bits_of number_of u16 u32 signed u16s
user-data-cases = record {
  p1-found = refl;
  p1_part = refl;
  p2_found = refl;
  p3_found = refl;
  none_found = refl;
  element-found = refl;
  form-found = refl;
  version-found = refl;
  subtype-found = refl;
  empty-found = refl;
  empty_part = refl;
}
