-- The rows of the table of LM, each as the part of specs/Asked.antt that it stands for; and so the table as all of them.
-- There a section is stated with what follows it: so is its row here, as `items lm o then q`.
-- Assumes nothing.
use Prim.Native.Nat.{ℕ, zero, suc}
use mathlib.Core.Bool.{Bool, true, false}
use mathlib.Core.Path.{◌≡◌, refl, sym, ap, ap₂, ◌∙◌, fun_ext}
use mathlib.Core.List.{List, [], ◌∷◌}
use lib.Dec.{eqb}
use lib.IntN.{pos}
use lib.ListN.{get_or, replicate}
use Rattle.octets.specs.Numbers.{u16, u32, signed, u16s, there}
use Rattle.item.specs.Code.{number, variable, length_within, index, natural}
use Rattle.row.specs.Offsets.{earlier}
use Rattle.row.specs.Rows.{Row, Number, Variable, FixedRun, CountedRun, Record, Choice, Octets, row_of, row_at}
use Rattle.items.specs.Items.{Items, stop, ask, ◌then◌, one, times}
use Rattle.items.proofs.Runs.{then-stop, then-assoc}
use Rattle.encoding.specs.Rows.{presence, fields, octets_within, row_items, items, asks}
use Rattle.encoding.proofs.RowItems.{items-row}
use Rattle.builtin.specs.Tables.{lm}
use Rattle.builtin.proofs.Tables.{lm-root}
use Rattle.lm_items.specs.declared.Kind.{Kind}
use Rattle.lm_items.specs.declared.Kind.TheVariants.{NullNetworking, InternalForwarding, NHopForwarding, Dissemination, Session}
use Rattle.lm_items.specs.Asked.{octet, two_octets, field_items, string_items, elements_if, strings_items, behind, flagged, header, content, transport_by, transport_branches, transport, original_by, original_branches, original, network_by, network_branches, network, asked}
use Rattle.lm_items.specs.Same.{SameItems}

-- ── items one after the other, and the fields of a record ──

-- a field that is there, by what its row asks for; extension elements, there or not; and then the rest
module _ (g : ℕ → Items) (q : Items) where
  field-then : {p rest : Items} (r : ℕ) (rs : List ℕ) (ps : List Bool) → g r ≡ p → fields g rs ps then q ≡ rest → fields g (r ∷ rs) (true ∷ ps) then q ≡ p then rest
  unfolding fields
  field-then r rs ps e h = then-assoc (g r) (fields g rs ps) q ∙ ap₂ ◌then◌ e h

  elements-then : {rest : Items} (kind : Kind) (r : ℕ) (rs : List ℕ) (ps : List Bool) (e : Bool) → g r ≡ elements_if true kind → fields g rs ps then q ≡ rest
      → fields g (r ∷ rs) (e ∷ ps) then q ≡ elements_if e kind then rest
  unfolding fields elements_if
  elements-then kind r rs ps false h l = l
  elements-then kind r rs ps true h l = field-then r rs ps h l

  no_more_fields : fields g [] [] then q ≡ q
  unfolding fields
  no_more_fields = refl

-- ── a row of the table ──

-- what the rows before o ask for
abbrev before : ℕ → ℕ → Items
before o = earlier stop o (items lm)

-- from the row at an offset
at : (o : ℕ) (r : Row) → row_at lm o ≡ r → items lm o ≡ row_items (before o) r
at o r e = items-row lm o ∙ ap (row_items (before o)) e

-- a record with an extensions flag, by its fields with and without
flagged_as : {f k : Bool → Items} → ((e : Bool) → f e ≡ k e) → ask (number (pos 0) 1) (λ v. f (eqb (natural v) 1)) ≡ flagged k
unfolding flagged
flagged_as h = ap (ask (number (pos 0) 1)) (fun_ext (λ v. h (eqb (natural v) 1)))

-- a reserved branch refers to 65535, past every row
reserved : (m n : ℕ) → ◌≡◌ {A = ℕ} (get_or (replicate m 65535) n 65535) 65535
reserved zero n = refl
reserved (suc m) zero = refl
reserved (suc m) (suc n) = reserved m n

-- ── octets and extensions ──

octet-row : items lm 0 ≡ octet
unfolding lm row_at row_of u16 u32 signed row_items octet
octet-row = at 0 (Number (pos 0) 255) refl

two-octets-row : items lm 12 ≡ two_octets
unfolding lm row_at row_of u16 u32 signed row_items two_octets
two-octets-row = at 12 (Number (pos 0) 65535) refl

contents-row : items lm 24 ≡ octets_within 1 16383
unfolding lm row_at row_of u16 row_items
contents-row = at 24 (Octets 1 16383) refl

element-row : items lm 30 ≡ octet then octets_within 1 16383
unfolding lm row_at row_of u16 u16s row_items presence fields earlier
element-row = at 30 (Record (0 ∷ 24 ∷ []) (0 ∷ 0 ∷ [])) refl ∙ ap₂ ◌then◌ octet-row (ap (◌then stop) contents-row ∙ then-stop (octets_within 1 16383))

extensions-row : items lm 44 ≡ ask (length_within 0 255) (λ v. times (natural v) (octet then octets_within 1 16383))
unfolding lm row_at row_of u16 row_items earlier
extensions-row = at 44 (CountedRun 255 30) refl ∙ ap (λ p. ask (length_within 0 255) (λ v. times (natural v) p)) element-row

-- ── null networking and N-hop forwarding ──

version-row : items lm 52 ≡ one (number (pos 0) 7)
unfolding lm row_at row_of u16 u32 signed row_items
version-row = at 52 (Number (pos 0) 7) refl

message-id-row : items lm 64 ≡ one (number (pos 0) 4194303)
unfolding lm row_at row_of u16 u32 signed row_items
message-id-row = at 64 (Number (pos 0) 4194303) refl

hop-count-row : items lm 76 ≡ one (number (pos 0) 3)
unfolding lm row_at row_of u16 u32 signed row_items
hop-count-row = at 76 (Number (pos 0) 3) refl

null-fields : (q : Items) (e : Bool) → fields (before 96) (52 ∷ 44 ∷ []) (true ∷ e ∷ []) then q ≡ ask (number (pos 0) 7) (λ v. behind NullNetworking e q)
unfolding earlier one behind field_items strings_items elements_if string_items
null-fields q e = field-then _ q 52 _ _ version-row (elements-then _ q NullNetworking 44 _ _ e extensions-row (no_more_fields _ q))

null-row : (q : Items) → items lm 96 then q ≡ header NullNetworking q
unfolding lm row_at row_of u16 u16s row_items presence header
null-row q = ap (◌then q) (at 96 (Record (52 ∷ 44 ∷ []) (0 ∷ 1 ∷ [])) refl) ∙ flagged_as (null-fields q)

n-hop-fields : (q : Items) (e : Bool)
    → fields (before 110) (52 ∷ 64 ∷ 76 ∷ 44 ∷ []) (true ∷ true ∷ true ∷ e ∷ []) then q ≡ ask (number (pos 0) 7) (λ v. behind NHopForwarding e q)
unfolding earlier one behind field_items strings_items elements_if string_items
n-hop-fields q e =
    field-then _ q 52 _ _ version-row
    (field-then _ q 64 _ _ message-id-row
    (field-then _ q 76 _ _ hop-count-row
    (elements-then _ q NHopForwarding 44 _ _ e extensions-row (no_more_fields _ q))))

n-hop-row : (q : Items) → items lm 110 then q ≡ header NHopForwarding q
unfolding lm row_at row_of u16 u16s row_items presence header
n-hop-row q = ap (◌then q) (at 110 (Record (52 ∷ 64 ∷ 76 ∷ 44 ∷ []) (0 ∷ 0 ∷ 0 ∷ 1 ∷ [])) refl) ∙ flagged_as (n-hop-fields q)

-- ── the user data and the T-Header ──

user-data-row : items lm 540 then stop ≡ content
unfolding lm row_at row_of u16 row_items content behind field_items strings_items string_items times
user-data-row = ap (◌then stop) (at 540 (Octets 0 16383) refl ∙ sym (then-stop (octets_within 0 16383)))

address-row : items lm 242 ≡ one variable
unfolding lm row_at row_of u16 row_items
address-row = at 242 Variable refl

dissemination-fields : (q : Items) (e : Bool) → fields (before 246) (242 ∷ 44 ∷ []) (true ∷ e ∷ []) then q ≡ behind Dissemination e q
unfolding earlier behind field_items strings_items elements_if string_items
dissemination-fields q e = field-then _ q 242 _ _ address-row (elements-then _ q Dissemination 44 _ _ e extensions-row (no_more_fields _ q))

dissemination-row : (q : Items) → items lm 246 then q ≡ flagged (λ e. behind Dissemination e q)
unfolding lm row_at row_of u16 u16s row_items presence
dissemination-row q = ap (◌then q) (at 246 (Record (242 ∷ 44 ∷ []) (0 ∷ 1 ∷ [])) refl) ∙ flagged_as (dissemination-fields q)

session-fields : (q : Items) (e : Bool) → fields (before 260) (12 ∷ 12 ∷ 44 ∷ []) (true ∷ true ∷ e ∷ []) then q ≡ behind Session e q
unfolding earlier one two_octets behind field_items strings_items elements_if string_items
session-fields q e = field-then _ q 12 _ _ two-octets-row (field-then _ q 12 _ _ two-octets-row (elements-then _ q Session 44 _ _ e extensions-row (no_more_fields _ q)))

session-row : (q : Items) → items lm 260 then q ≡ flagged (λ e. behind Session e q)
unfolding lm row_at row_of u16 u16s row_items presence
session-row q = ap (◌then q) (at 260 (Record (12 ∷ 12 ∷ 44 ∷ []) (0 ∷ 0 ∷ 1 ∷ [])) refl) ∙ flagged_as (session-fields q)

abbrev transport-rows : List ℕ
transport-rows = 246 ∷ 260 ∷ replicate 126 65535

transport-branch : (n : ℕ) → before 278 (get_or transport-rows n 65535) then content ≡ transport_by n
unfolding earlier transport_by
transport-branch zero = dissemination-row content
transport-branch (suc zero) = session-row content
transport-branch (suc (suc n)) = ap (λ r. before 278 r then content) (reserved 126 n)

transport-row : items lm 278 then content ≡ transport
unfolding lm row_at row_of u16 u16s row_items there transport
transport-row = ap (◌then content) (at 278 (Choice transport-rows) refl) ∙ ap (ask (index transport_branches)) (fun_ext (λ v. transport-branch (natural v)))

-- ── the original N-Header ──

abbrev original-rows : List ℕ
original-rows = 96 ∷ 65535 ∷ 110 ∷ replicate 13 65535

original-branch : (n : ℕ) → before 132 (get_or original-rows n 65535) then transport ≡ original_by n
unfolding earlier original_by
original-branch zero = null-row transport
original-branch (suc zero) = refl
original-branch (suc (suc zero)) = n-hop-row transport
original-branch (suc (suc (suc n))) = ap (λ r. before 132 r then transport) (reserved 13 n)

original-row : items lm 132 then transport ≡ original
unfolding lm row_at row_of u16 u16s row_items there original
original-row = ap (◌then transport) (at 132 (Choice original-rows) refl) ∙ ap (ask (index original_branches)) (fun_ext (λ v. original-branch (natural v)))

-- ── the N-Header ──

link-id-row : items lm 88 ≡ times 8 octet
unfolding lm row_at row_of u16 row_items earlier
link-id-row = at 88 (FixedRun 8 0) refl ∙ ap (times 8) octet-row

internal-fields : (e : Bool)
    → fields (before 170) (52 ∷ 0 ∷ 12 ∷ 88 ∷ 0 ∷ 44 ∷ 132 ∷ []) (true ∷ true ∷ true ∷ true ∷ true ∷ e ∷ true ∷ []) then transport
    ≡ ask (number (pos 0) 7) (λ v. behind InternalForwarding e original)
unfolding earlier one times octet two_octets behind field_items strings_items elements_if string_items
internal-fields e =
    field-then _ transport 52 _ _ version-row
    (field-then _ transport 0 _ _ octet-row
    (field-then _ transport 12 _ _ two-octets-row
    (field-then _ transport 88 _ _ link-id-row
    (field-then _ transport 0 _ _ octet-row
    (elements-then _ transport InternalForwarding 44 _ _ e extensions-row
    (field-then _ transport 132 _ _ refl (no_more_fields _ transport) ∙ original-row))))))

internal-row : items lm 170 then transport ≡ header InternalForwarding original
unfolding lm row_at row_of u16 u16s row_items presence header
internal-row = ap (◌then transport) (at 170 (Record (52 ∷ 0 ∷ 12 ∷ 88 ∷ 0 ∷ 44 ∷ 132 ∷ []) (0 ∷ 0 ∷ 0 ∷ 0 ∷ 0 ∷ 1 ∷ 0 ∷ [])) refl) ∙ flagged_as internal-fields

abbrev network-rows : List ℕ
network-rows = 96 ∷ 170 ∷ 110 ∷ replicate 13 65535

network-branch : (n : ℕ) → before 204 (get_or network-rows n 65535) then transport ≡ network_by n
unfolding earlier network_by
network-branch zero = null-row transport
network-branch (suc zero) = internal-row
network-branch (suc (suc zero)) = n-hop-row transport
network-branch (suc (suc (suc n))) = ap (λ r. before 204 r then transport) (reserved 13 n)

network-row : items lm 204 then transport ≡ network
unfolding lm row_at row_of u16 u16s row_items there network
network-row = ap (◌then transport) (at 204 (Choice network-rows) refl) ∙ ap (ask (index network_branches)) (fun_ext (λ v. network-branch (natural v)))

-- ── the LM ──

root-row : items lm 546 ≡ network
unfolding lm row_at row_of u16 u16s row_items presence fields earlier
root-row =
    at 546 (Record (204 ∷ 278 ∷ 540 ∷ []) (0 ∷ 0 ∷ 0 ∷ [])) refl
    ∙ ap (items lm 204 then◌) (ap (items lm 278 then◌) user-data-row ∙ transport-row)
    ∙ network-row

pub same_items : SameItems
unfolding asks asked
same_items = record { same = ap (items lm) lm-root ∙ root-row }
