-- Strings are whole octets.
-- Assumes nothing.
use mathlib.Core.Bool.{Bool, true, false, cond}
use Rattle.item.specs.Code.{length_within, natural}
use Rattle.items.specs.Items.{stop, times}
use Rattle.whole.proofs.Aligned.{Whole, whole_stop, whole_then, whole_times, whole_octet, whole_ask, length-octets}
use Rattle.strings.proofs.Wholes.{whole_octets}
use Rattle.lm_items.specs.Asked.{octet, is_content, least, id_items, string_items, elements_if, strings_items}
use Rattle.lm_items.specs.declared.Kind.{Kind}

pub whole_id : (kind : Kind) → Whole (id_items kind)
unfolding octet
whole_id kind = go (is_content kind)
  where
    go : (content : Bool) → Whole (cond content stop octet)
    go true = whole_stop
    go false = whole_octet

pub whole_string : (kind : Kind) → Whole (string_items kind)
unfolding string_items
whole_string kind = whole_then (whole_id kind) (whole_octets (least kind) 16383)

pub whole_strings : (kind : Kind) (e : Bool) → Whole (strings_items kind e)
unfolding strings_items elements_if
whole_strings kind e = go (is_content kind) e
  where
    go : (content e : Bool) → Whole (cond content (times 1 (string_items kind)) (elements_if e kind))
    go true e = whole_times 1 (whole_string kind)
    go false false = whole_stop
    go false true = whole_ask (length_within 0 255) (λ v. times (natural v) (string_items kind)) (length-octets 0 255) (λ v. whole_times (natural v) (whole_string kind))
