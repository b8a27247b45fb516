-- The end of a section, and of the last.
-- Assumes nothing.
use Prim.Native.Nat.{ℕ, ◌%◌, ◌<◌}
use mathlib.Core.Bool.{Bool}
use mathlib.Core.Path.{◌≡◌, refl}
use mathlib.Core.List.{List}
use native.Mathlib.Omega.{arith}
use lib.IntN.{ℤ}
use Rattle.std.proofs.Common.{Ok, Err}
use Rattle.answer.specs.declared.Refusal.{Refusal}
use Rattle.items.specs.Items.{◌then◌}
use Rattle.read_steps.specs.Reads.{State, Reads, Continues}
use Rattle.read_steps.specs.declared.Cursor.{Cursor}
use Rattle.read_steps.proofs.Flow.{continues-trans, continues_part, refused_part}
use Rattle.whole.proofs.Aligned.{aligned_after}
use Rattle.lm_items.specs.Asked.{following, rank, strings_items, asked}
use Rattle.lm_items.specs.declared.Section.{Section}
use Rattle.lm_items.specs.declared.Section.TheVariants.{Network, Original, Transport, Content, End}
use Rattle.lm_items.specs.declared.Kind.{Kind}
use Rattle.lm_strings.proofs.Wholes.{whole_strings}
use Rattle.lm_sections.specs.Passes.{Passes}

-- its strings, and then what follows
module _ (section : Section) (kind : Kind) (e : Bool) {message : List ℕ} {room : ℕ} {from far : State} {values : List ℤ} {packed : List ℕ}
    (before : Continues message room (asked section) from (strings_items kind e then asked (following kind)) far) where
  pub section-passes : {to : Cursor} → rank (following kind) < rank section → far.cursor.place.0 % 8 ≡ 0
      → Reads message room (strings_items kind e) far values packed (Ok to) → Passes section message room from values packed (Ok (following kind, to))
  section-passes fewer aligned r =
      (continues-trans before (continues_part (strings_items kind e) (asked (following kind)) r refl), fewer, aligned_after (whole_strings kind e) aligned r refl)

  pub section-refused : {refusal : Refusal} → Reads message room (strings_items kind e) far values packed (Err refusal)
      → Reads message room (asked section) from values packed (Err refusal)
  section-refused r = before.complete _ _ _ (refused_part (strings_items kind e) (asked (following kind)) r refl)

pub no_more : (section : Section) → rank section ≡ 0 → section ≡ End
no_more Network e = absurd (omega arith)
no_more Original e = absurd (omega arith)
no_more Transport e = absurd (omega arith)
no_more Content e = absurd (omega arith)
no_more End e = refl
