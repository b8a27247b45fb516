-- What is shown of the built-in tables, each fact by one computation over the octets: the check passes each, where its root
-- is, and that its octets are the rows of specs/Layout.antt.
use Prim.Native.Nat.{ℕ}
use mathlib.Core.Path.{◌≡◌, refl, ap, subst}
use mathlib.Core.List.{List}
use Rattle.octets.specs.Numbers.{u16, u32, signed, u16s, there}
use Rattle.row.specs.Rows.{Row, row_of, row_at, row_length, within}
use Rattle.rules.specs.Rules.{known_kind, flags_in_bounds, numbers_in_bounds, branches, references, some_branch, has_branch, Obeys}
use Rattle.table.specs.Verdict.{passed, verdict, checked}
use Rattle.rules.specs.Tests.{row_verdict, row_depth}
use Rattle.table.specs.Root.{root, root_from, IsRoot}
use Rattle.table.proofs.Decides.{passes-exactly}
use Rattle.table.proofs.LastRow.{root_is}
use Rattle.builtin.specs.Tables.{lm, sam, srm}
use Rattle.builtin.specs.Layout.{lm_rows, sam_rows, srm_rows}
use Rattle.builtin.specs.Built.{Rows, Built, LeastLengths, BuiltIn}

-- ── each passes the check, and so obeys the rules ──

all_pass : (verdict lm ≡ passed) × ((verdict sam ≡ passed) × (verdict srm ≡ passed))
unfolding lm sam srm u16 u32 signed u16s there row_of row_at row_length known_kind within flags_in_bounds numbers_in_bounds branches references some_branch has_branch row_verdict row_depth verdict
all_pass = (refl, (refl, refl))

pub lm-passes : verdict lm ≡ passed
lm-passes = all_pass.0

pub sam-passes : verdict sam ≡ passed
sam-passes = all_pass.1.0

pub srm-passes : verdict srm ≡ passed
srm-passes = all_pass.1.1

pub lm-obeys : Obeys lm
lm-obeys = (passes-exactly lm).0 lm-passes

pub sam-obeys : Obeys sam
sam-obeys = (passes-exactly sam).0 sam-passes

pub srm-obeys : Obeys srm
srm-obeys = (passes-exactly srm).0 srm-passes

-- ── the offset of each root ──

all_roots : (root lm ≡ 546) × ((root sam ≡ 342) × (root srm ≡ 180))
unfolding lm sam srm u16 root_from root
all_roots = (refl, (refl, refl))

pub lm-root : root lm ≡ 546
lm-root = all_roots.0

pub sam-root : root sam ≡ 342
sam-root = all_roots.1.0

pub srm-root : root srm ≡ 180
srm-root = all_roots.1.1

-- ── the octets are the rows that specs/Layout.antt lists: an offset and a row for each, and then the end ──

lm-rows : Rows lm 0 lm_rows
unfolding lm lm_rows u16 u32 signed u16s row_of row_at row_length
lm-rows = (refl, refl, (refl, refl, (refl, refl, (refl, refl, (refl, refl, (refl, refl, (refl, refl, (refl, refl, (refl, refl, (refl, refl, (refl, refl, (refl, refl, (refl, refl, (refl, refl, (refl, refl, (refl, refl, (refl, refl, (refl, refl, (refl, refl, (refl, refl, refl))))))))))))))))))))

sam-rows : Rows sam 0 sam_rows
unfolding sam sam_rows u16 u32 signed u16s row_of row_at row_length
sam-rows = (refl, refl, (refl, refl, (refl, refl, (refl, refl, (refl, refl, (refl, refl, (refl, refl, (refl, refl, (refl, refl, (refl, refl, (refl, refl, (refl, refl, (refl, refl, (refl, refl, (refl, refl, (refl, refl, (refl, refl, (refl, refl, (refl, refl, (refl, refl, (refl, refl, (refl, refl, (refl, refl, (refl, refl, (refl, refl, refl)))))))))))))))))))))))))

srm-rows : Rows srm 0 srm_rows
unfolding srm srm_rows u16 u32 signed u16s row_of row_at row_length
srm-rows = (refl, refl, (refl, refl, (refl, refl, (refl, refl, (refl, refl, (refl, refl, (refl, refl, (refl, refl, (refl, refl, (refl, refl, (refl, refl, (refl, refl, (refl, refl, (refl, refl, (refl, refl, (refl, refl, (refl, refl, refl)))))))))))))))))

least-lengths : LeastLengths
unfolding lm sam srm u16 row_of row_at
least-lengths = record { lm_contents = refl; sam_contents = refl; srm_contents = refl; context_data = refl; user_data = refl; system_service = refl }

-- ── together ──

built : (t : List ℕ) (listed : List (ℕ × Row)) (last : ℕ) → verdict t ≡ passed → Rows t 0 listed → root t ≡ last → Built t listed last
built t listed last p r e =
    let h = (passes-exactly t).0 p in
    record { passes = ap (λ v. checked v) p; obeys = h; listed = r; root = subst (λ (o : ℕ). IsRoot t o) e (root_is t h) }

pub built_in_lem : BuiltIn
built_in_lem = record {
  an_lm = built lm lm_rows 546 lm-passes lm-rows lm-root;
  a_sam = built sam sam_rows 342 sam-passes sam-rows sam-root;
  an_srm = built srm srm_rows 180 srm-passes srm-rows srm-root;
  least_lengths = least-lengths;
}
