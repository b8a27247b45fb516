-- What holds of the built-in tables (document 01, "LM, SAM and SRM": all three pass the check): each passes, obeys the rules, is the
-- rows that Layout.antt lists and no others, and ends with its root; and the least lengths of its octets. The proof is
-- proofs/Tables.antt.
use Rattle.std.specs.Prelude.{ℕ, ◌+◌, ◌≡◌, List, [], ◌∷◌, length}
use Rattle.answer.specs.Numbers.{accepted}
use Rattle.row.specs.Rows.{Row, Octets, row_at, row_length}
use Rattle.rules.specs.Rules.{Obeys}
use Rattle.table.specs.Verdict.{verdict, checked}
use Rattle.table.specs.Root.{IsRoot}
use Rattle.builtin.specs.Tables.{lm, sam, srm}
use Rattle.builtin.specs.Layout.{lm_rows, sam_rows, srm_rows}

-- a list is the rows of a table from o on, one after another, each with its offset, and they fill the table exactly
abbrev pub Rows : List ℕ → ℕ → List (ℕ × Row) → Type 0
Rows t o [] = o ≡ length t
Rows t o ((p, r) ∷ rest) = (p ≡ o) × (r ≡ row_at t o) × Rows t (o + row_length r) rest

-- a table, the rows that it is, and the offset of the last
pub record Built (table : List ℕ) (list : List (ℕ × Row)) (last : ℕ) : Type 0 where
  pub passes : checked (verdict table) ≡ accepted 0 0 0
  pub obeys : Obeys table
  pub listed : Rows table 0 list
  pub root : IsRoot table last

-- the least lengths of octets (document 02, ticket 2): 1 for an element's contents, and a context's data in an SRM; 0, so that they may
-- be empty, for an LM's user data and a SAM's system service
pub record LeastLengths : Type 0 where
  pub lm_contents : row_at lm 24 ≡ Octets 1 16383
  pub sam_contents : row_at sam 24 ≡ Octets 1 16383
  pub srm_contents : row_at srm 24 ≡ Octets 1 16383
  pub context_data : row_at srm 90 ≡ Octets 1 16383
  pub user_data : row_at lm 540 ≡ Octets 0 16383
  pub system_service : row_at sam 94 ≡ Octets 0 16383

pub record BuiltIn : Type 0 where
  pub an_lm : Built lm lm_rows 546
  pub a_sam : Built sam sam_rows 342
  pub an_srm : Built srm srm_rows 180
  pub least_lengths : LeastLengths
