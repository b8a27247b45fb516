-- `lm_sections::read_section` meets its contract. The opening, the fields, the strings: one part after the other.
-- Assumes nothing.
use mathlib.Core.Path.{refl}
use Rattle.answer.proofs.Exits.{exit}
use Rattle.items.specs.Items.{◌then◌}
use Rattle.read_steps.proofs.Flow.{continues-trans, continues_part, refused_part}
use Rattle.whole.proofs.Aligned.{aligned_after}
use Rattle.lm_items.specs.Asked.{following, field_items, strings_items, behind, asked, on}
use Rattle.lm_fields.proofs.Wholes.{whole_fields}
use Rattle.lm_sections.proofs.Sections.{section-passes, section-refused}
use Rattle.lm_sections.proofs.read_section.Goals as goal

pub returns-in_err-kind : goal.returns-in_err-kind
returns-in_err-kind c = rw (exit _ c.from_residual.ensures.1) c.in_err-kind.ensures

pub returns-in_err-far : goal.returns-in_err-far
unfolding on behind
returns-in_err-far c =
    let kind = c.in_ok-kind.kind in
    let refused = refused_part (field_items kind) (strings_items kind c.in_ok-kind.extended then asked (following kind)) c.in_err-far.ensures refl in
    rw (exit _ c.from_residual-in_err-far.ensures.1) (c.in_ok-kind.ensures.0.complete _ _ _ refused)

pub section_strings-requires : goal.section_strings-requires
section_strings-requires c =
    (c.requires.0, aligned_after (whole_fields c.in_ok-kind.kind) c.in_ok-kind.ensures.2 c.in_ok-far.ensures refl)

pub returns-in_err-end : goal.returns-in_err-end
unfolding on behind
returns-in_err-end c =
    let kind = c.in_ok-kind.kind in
    let e = c.in_ok-kind.extended in
    let before = continues-trans c.in_ok-kind.ensures.0 (continues_part (field_items kind) (strings_items kind e then asked (following kind)) c.in_ok-far.ensures refl) in
    rw (exit _ c.from_residual-in_err-end.ensures.1) (section-refused c.args.section kind e before c.in_err-end.ensures)

pub returns : goal.returns
unfolding on behind
returns c =
    let kind = c.in_ok-kind.kind in
    let e = c.in_ok-kind.extended in
    let opens = c.in_ok-kind.ensures in
    let before = continues-trans opens.0 (continues_part (field_items kind) (strings_items kind e then asked (following kind)) c.in_ok-far.ensures refl) in
    let aligned = aligned_after (whole_fields kind) opens.2 c.in_ok-far.ensures refl in
    rw c.following.ensures (section-passes c.args.section kind e before opens.1 aligned c.in_ok-end.ensures)
