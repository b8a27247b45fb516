-- What each kind of row asks for, from the row at its offset.
-- Assumes nothing.
use Prim.Native.Nat.{ℕ, ◌+◌, ◌<◌}
use mathlib.Core.Bool.{Bool, true, false}
use mathlib.Core.Path.{◌≡◌, refl, ap, ap₂, ◌∙◌, fun_ext}
use mathlib.Core.List.{List, [], ◌∷◌, map}
use lib.IntN.{ℤ, pos}
use lib.ListN.{get_or}
use Rattle.octets.specs.Numbers.{u16, there}
use Rattle.item.specs.Code.{Code, number, variable, length_within, index, natural}
use Rattle.row.specs.Offsets.{earlier}
use Rattle.row.specs.Rows.{Row, Number, Variable, FixedRun, CountedRun, Record, Choice, Octets, Unknown, row_at}
use Rattle.row.specs.Kinds.{is_octets, least_length}
use Rattle.rules.specs.Rules.{All, Earlier, references, Starts, Obeys}
use Rattle.table.proofs.Obeyed.{octets-row}
use Rattle.row.proofs.Offsets.{earlier_is, by_offset_is}
use Rattle.items.specs.Items.{Items, stop, ask, ◌then◌, one, times}
use Rattle.encoding.specs.Rows.{presence, fields, octets_within, row_items, items}
use Rattle.encoding.proofs.References.{all_map, all_branches}

-- the equation by which a reader goes from row to row
pub items-row : (t : List ℕ) (o : ℕ) → items t o ≡ row_items (earlier stop o (items t)) (row_at t o)
unfolding items
items-row t o = by_offset_is stop (λ o g. row_items g (row_at t o)) o

-- two meanings of rows that are the same for each reference of a row, and for a choice what stands for a reserved branch
module _ (f g : ℕ → Items) where
  fields_same : (rs : List ℕ) → All (λ r. f r ≡ g r) rs → (ps : List Bool) → fields f rs ps ≡ fields g rs ps
  unfolding fields
  fields_same [] h ps = refl
  fields_same (r ∷ rs) h [] = refl
  fields_same (r ∷ rs) h (true ∷ ps) = ap₂ ◌then◌ h.0 (fields_same rs h.1 ps)
  fields_same (r ∷ rs) h (false ∷ ps) = fields_same rs h.1 ps

  pub row_items_same : (row : Row) → All (λ r. f r ≡ g r) (references row) → ((rs : List ℕ) → row ≡ Choice rs → f 65535 ≡ g 65535) → row_items f row ≡ row_items g row
  unfolding row_items references
  row_items_same (Number low span) h z = refl
  row_items_same Variable h z = refl
  row_items_same (FixedRun n r) h z = ap (times n) h.0
  row_items_same (CountedRun most r) h z = ap (λ p. ask (length_within 0 most) (λ v. times (natural v) p)) h.0
  row_items_same (Record rs fs) h z = ap (presence fs) (fun_ext (fields_same rs h))
  row_items_same (Choice rs) h z = ap (ask (index (map there rs))) (fun_ext (λ v. all_branches (λ r. f r ≡ g r) rs h (z rs refl) (natural v)))
  row_items_same (Octets least most) h z = refl
  row_items_same Unknown h z = refl

-- a row by its kind, with g for the rows that it refers to
module _ (g : ℕ → Items) (t : List ℕ) (o : ℕ) where
  pub asks-number : (low : ℤ) (span : ℕ) → row_at t o ≡ Number low span → row_items g (row_at t o) ≡ one (number low span)
  unfolding row_items
  asks-number low span e = ap (row_items g) e

  pub asks-variable : row_at t o ≡ Variable → row_items g (row_at t o) ≡ one variable
  unfolding row_items
  asks-variable e = ap (row_items g) e

  pub asks-fixed : (n r : ℕ) → row_at t o ≡ FixedRun n r → row_items g (row_at t o) ≡ times n (g r)
  unfolding row_items
  asks-fixed n r e = ap (row_items g) e

  pub asks-counted : (most r : ℕ) → row_at t o ≡ CountedRun most r → row_items g (row_at t o) ≡ ask (length_within 0 most) (λ v. times (natural v) (g r))
  unfolding row_items
  asks-counted most r e = ap (row_items g) e

  pub asks-choice : (rs : List ℕ) → row_at t o ≡ Choice rs → row_items g (row_at t o) ≡ ask (index (map there rs)) (λ v. g (get_or rs (natural v) 65535))
  unfolding row_items
  asks-choice rs e = ap (row_items g) e

  pub asks-octets : (least most : ℕ) → row_at t o ≡ Octets least most → row_items g (row_at t o) ≡ octets_within least most
  unfolding row_items
  asks-octets least most e = ap (row_items g) e

module _ (t : List ℕ) (o : ℕ) where
  -- rows before a row mean what they mean anywhere
  pub earlier-items : (rs : List ℕ) → All (Earlier t o) rs → All (λ r. earlier stop o (items t) r ≡ items t r) rs
  earlier-items = all_map (λ r e. earlier_is stop o (items t) r e.1)

  items-is : (r : Row) → row_at t o ≡ r → items t o ≡ row_items (earlier stop o (items t)) r
  items-is r e = items-row t o ∙ ap (row_items (earlier stop o (items t))) e

  pub items-number : (low : ℤ) (span : ℕ) → row_at t o ≡ Number low span → items t o ≡ one (number low span)
  unfolding row_items
  items-number low span e = items-is (Number low span) e

  pub items-variable : row_at t o ≡ Variable → items t o ≡ one variable
  unfolding row_items
  items-variable e = items-is Variable e

  -- the length of a row of octets, of either kind
  unfoldable pub octets_length : Code
  octets_length = length_within (least_length (u16 t (o + 2))) (u16 t (o + 4))

  pub items-octets : Obeys t → Starts t o → is_octets (u16 t (o + 2)) ≡ true → items t o ≡ ask octets_length (λ v. times (natural v) (one (number (pos 0) 255)))
  unfolding row_items octets_length
  items-octets h s k = items-is (Octets (least_length (u16 t (o + 2))) (u16 t (o + 4))) (octets-row h s k).0

  pub items-fixed : (n r : ℕ) → row_at t o ≡ FixedRun n r → r < o → items t o ≡ times n (items t r)
  unfolding row_items
  items-fixed n r e h = items-is (FixedRun n r) e ∙ ap (times n) (earlier_is stop o (items t) r h)

  pub items-counted : (most r : ℕ) → row_at t o ≡ CountedRun most r → r < o → items t o ≡ ask (length_within 0 most) (λ v. times (natural v) (items t r))
  unfolding row_items
  items-counted most r e h = items-is (CountedRun most r) e ∙ ap (λ p. ask (length_within 0 most) (λ v. times (natural v) p)) (earlier_is stop o (items t) r h)

  pub items-record : (rs fs : List ℕ) → row_at t o ≡ Record rs fs → All (Earlier t o) rs → items t o ≡ presence fs (fields (items t) rs)
  unfolding row_items
  items-record rs fs e h = items-is (Record rs fs) e ∙ ap (presence fs) (fun_ext (fields_same (earlier stop o (items t)) (items t) rs (earlier-items rs h)))

  pub items-choice : (rs : List ℕ) → row_at t o ≡ Choice rs
      → items t o ≡ ask (index (map there rs)) (λ v. earlier stop o (items t) (get_or rs (natural v) 65535))
  unfolding row_items
  items-choice rs e = items-is (Choice rs) e
