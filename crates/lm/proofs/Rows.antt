-- The rows of the table of LM, each as the part of the layout that it stands for; and so the table as the layout.
-- A choice's index and a record's extensions flag stand in front of what their row asks for: `drop` takes them off the layout.
-- Assumes nothing.
use Prim.Native.Nat.{ℕ, zero, suc, ◌≤◌}
use mathlib.Core.Bool.{Bool, true, false, false≢true}
use mathlib.Core.Path.{◌≡◌, refl, sym, ap, ◌∙◌, subst}
use mathlib.Core.List.{List, [], ◌∷◌, ◌++◌, map, append-nil, append_assoc}
use native.Mathlib.Omega.{arith}
use lib.IntN.{ℤ, pos}
use lib.ListN.{length, get_or, drop, replicate}
use Rattle.octets.specs.Numbers.{u16, u32, signed, u16s, there}
use Rattle.bits.specs.Bits.{bits_of, width, unpack}
use Rattle.row.specs.Offsets.{earlier}
use Rattle.row.specs.Rows.{Row, Number, Variable, FixedRun, CountedRun, Record, Choice, row_of, row_at, Octets as OctetsRow}
use Rattle.items.specs.Items.{Items, stop}
use Rattle.encoding.specs.Rows.{presence, fields, row_items, items, asks}
use Rattle.encoding.proofs.RowItems.{items-row}
use Rattle.builtin.specs.Tables.{lm}
use Rattle.builtin.proofs.Tables.{lm-root}
use Rattle.lm.specs.Clause5.{length_bits, address_bits, octets_values, Octets, element_values, element_bits, ElementWithin, present, flag, extensions_values, extensions_bits, ExtensionsWithin, NullNetworking, null_networking_values, null_networking_bits, NullNetworkingWithin, NHopForwarding, n_hop_forwarding_values, n_hop_forwarding_bits, NHopForwardingWithin, OriginalHeader, original_null, original_nhop, original_header_values, original_header_bits, OriginalHeaderWithin, InternalForwarding, internal_forwarding_values, internal_forwarding_bits, InternalForwardingWithin, NHeader, null_networking, internal_forwarding, n_hop_forwarding, n_header_values, n_header_bits, NHeaderWithin, Dissemination, dissemination_values, dissemination_bits, DisseminationWithin, Session, session_values, session_bits, SessionWithin, THeader, dissemination, session, t_header_values, t_header_bits, THeaderWithin, layout_bits, values_of, WellFormed}
use Rattle.lm.proofs.Spelling.{Spells, spells_as}
use Rattle.lm.proofs.Pieces.{spells-number, spells-address, spells-run, spells-octets, spells-octet-run, spells_end, spells-field, spells-extensions, spells_last, spells-flag, spells-branch, reserved, Chosen, spells-choice}

-- what the rows before o ask for
abbrev before : ℕ → ℕ → Items
before o = earlier stop o (items lm)

-- from the row at an offset
at : {A : Type 0} {F : A → Type 0} {v : A → List ℤ} {b : A → List Bool} (o : ℕ) (r : Row) → row_at lm o ≡ r → Spells (row_items (before o) r) F v b → Spells (items lm o) F v b
at {F = F} {v} {b} o r e s = subst (λ (p : Items). Spells p F v b) (sym (items-row lm o ∙ ap (row_items (before o)) e)) s

-- ── octets and extensions ──

octet : Spells (items lm 0) (λ n. n ≤ 255) (λ n. pos n ∷ []) (bits_of 8)
unfolding lm row_at row_of u16 u32 signed row_items width
octet = at 0 (Number (pos 0) 255) refl (spells-number 255)

two-octets : Spells (items lm 12) (λ n. n ≤ 65535) (λ n. pos n ∷ []) (bits_of 16)
unfolding lm row_at row_of u16 u32 signed row_items width
two-octets = at 12 (Number (pos 0) 65535) refl (spells-number 65535)

contents : Spells (items lm 24) (λ os. Octets os × (1 ≤ length os) × (length os ≤ 16383)) octets_values (λ os. length_bits (length os) ++ unpack os)
unfolding lm row_at row_of u16 row_items
contents = at 24 (OctetsRow 1 16383) refl (spells-octets 1)

element : Spells (items lm 30) ElementWithin element_values element_bits
unfolding lm row_at row_of u16 u16s row_items presence earlier
element =
    at 30 (Record (0 ∷ 24 ∷ []) (0 ∷ 0 ∷ [])) refl
    (spells_as
    (spells-field _ 0 _ _ octet (spells-field _ 24 _ _ contents (spells_end _)))
    (λ e h. ((e.id, (e.contents, tt)), (h.id, ((h.contents, h.least, h.most), tt)), ap (pos e.id ∷◌) (sym (append-nil (octets_values e.contents))), simp append_assoc))
    (λ x h. (record { id = x.0; contents = x.1.0 }, record { id = h.0; contents = h.1.0.0; least = h.1.0.1; most = h.1.0.2 }, ap (pos x.0 ∷◌) (sym (append-nil (octets_values x.1.0))))))

extensions : Spells (items lm 44) (λ es. ExtensionsWithin (present es)) (λ es. extensions_values (present es)) (λ es. extensions_bits (present es))
unfolding lm row_at row_of u16 row_items earlier
extensions =
    at 44 (CountedRun 255 30) refl
    (spells_as (spells-run 0 255 (omega arith) element)
    (λ es h. (es, (h.0, omega arith, h.1), refl, refl))
    (λ es h. (es, (h.0, h.2), refl)))

-- ── null networking and N-hop forwarding ──

version : Spells (items lm 52) (λ n. n ≤ 7) (λ n. pos n ∷ []) (bits_of 3)
unfolding lm row_at row_of u16 u32 signed row_items width
version = at 52 (Number (pos 0) 7) refl (spells-number 7)

message-id : Spells (items lm 64) (λ n. n ≤ 4194303) (λ n. pos n ∷ []) (bits_of 22)
unfolding lm row_at row_of u16 u32 signed row_items width
message-id = at 64 (Number (pos 0) 4194303) refl (spells-number 4194303)

hop-count : Spells (items lm 76) (λ n. n ≤ 3) (λ n. pos n ∷ []) (bits_of 2)
unfolding lm row_at row_of u16 u32 signed row_items width
hop-count = at 76 (Number (pos 0) 3) refl (spells-number 3)

null-fields : (e : Bool) → Spells (fields (before 96) (52 ∷ 44 ∷ []) (true ∷ e ∷ [])) (λ h. (flag h.extensions ≡ e) × NullNetworkingWithin h)
    (λ h. drop 2 (null_networking_values h)) (λ h. drop 5 (null_networking_bits h))
unfolding earlier bits_of
null-fields e =
    spells_as
    (spells-field _ 52 _ _ version (spells_last _ 44 e extensions))
    (λ h f. ((h.version, h.extensions), (f.1.version, (f.0, f.1.extensions)), refl, refl))
    (λ x f. (record { version = x.0; extensions = x.1 }, (f.1.0, record { version = f.0; extensions = f.1.1 }), refl))

null : Spells (items lm 96) NullNetworkingWithin (λ h. drop 1 (null_networking_values h)) (λ h. drop 4 (null_networking_bits h))
unfolding lm row_at row_of u16 u16s row_items presence bits_of
null = at 96 (Record (52 ∷ 44 ∷ []) (0 ∷ 1 ∷ [])) refl (spells-flag _ (λ (h : NullNetworking). h.extensions) null-fields)

n-hop-fields : (e : Bool)
    → Spells (fields (before 110) (52 ∷ 64 ∷ 76 ∷ 44 ∷ []) (true ∷ true ∷ true ∷ e ∷ [])) (λ h. (flag h.extensions ≡ e) × NHopForwardingWithin h)
    (λ h. drop 2 (n_hop_forwarding_values h)) (λ h. drop 5 (n_hop_forwarding_bits h))
unfolding earlier bits_of
n-hop-fields e =
    spells_as
    (spells-field _ 52 _ _ version
    (spells-field _ 64 _ _ message-id
    (spells-field _ 76 _ _ hop-count
    (spells_last _ 44 e extensions))))
    (λ h f. ((h.version, (h.message_id, (h.hop_count, h.extensions))), (f.1.version, (f.1.message_id, (f.1.hop_count, (f.0, f.1.extensions)))), refl, refl))
    (λ x f. (
      record { version = x.0; message_id = x.1.0; hop_count = x.1.1.0; extensions = x.1.1.1 },
      (f.1.1.1.0, record { version = f.0; message_id = f.1.0; hop_count = f.1.1.0; extensions = f.1.1.1.1 }),
      refl,
    ))

n-hop : Spells (items lm 110) NHopForwardingWithin (λ h. drop 1 (n_hop_forwarding_values h)) (λ h. drop 4 (n_hop_forwarding_bits h))
unfolding lm row_at row_of u16 u16s row_items presence bits_of
n-hop = at 110 (Record (52 ∷ 64 ∷ 76 ∷ 44 ∷ []) (0 ∷ 0 ∷ 0 ∷ 1 ∷ [])) refl (spells-flag _ (λ (h : NHopForwarding). h.extensions) n-hop-fields)

-- ── the original N-Header ──

abbrev original-subtype : OriginalHeader → ℕ
original-subtype (original_null h) = 0
original-subtype (original_nhop h) = 2

abbrev original-rows : List ℕ
original-rows = 96 ∷ 65535 ∷ 110 ∷ replicate 13 65535

original-chosen : (h : OriginalHeader) → Chosen (map there original-rows) original-subtype original_header_values original_header_bits h
unfolding there width bits_of
original-chosen (original_null h) = record { there = refl; value = refl; bits = refl }
original-chosen (original_nhop h) = record { there = refl; value = refl; bits = refl }

original-null : (a : OriginalHeader) → original-subtype a ≡ 0 → (h : NullNetworking) × (original_null h ≡ a)
original-null (original_null h) e = (h, refl)
original-null (original_nhop h) e = absurd (omega arith)

original-n-hop : (a : OriginalHeader) → original-subtype a ≡ 2 → (h : NHopForwarding) × (original_nhop h ≡ a)
original-n-hop (original_null h) e = absurd (omega arith)
original-n-hop (original_nhop h) e = (h, refl)

original-branch : (n : ℕ) → get_or (map there original-rows) n false ≡ true
    → Spells (before 132 (get_or original-rows n 65535)) (λ a. (original-subtype a ≡ n) × OriginalHeaderWithin a) (λ a. drop 1 (original_header_values a)) (λ a. drop 4 (original_header_bits a))
unfolding there earlier
original-branch zero h = spells-branch original_null (λ y. refl) original-null null
original-branch (suc zero) h = absurd (false≢true h)
original-branch (suc (suc zero)) h = spells-branch original_nhop (λ y. refl) original-n-hop n-hop
original-branch (suc (suc (suc n))) h = absurd (reserved n 13 h)

original : Spells (items lm 132) OriginalHeaderWithin original_header_values original_header_bits
unfolding lm row_at row_of u16 u16s row_items there width
original = at 132 (Choice original-rows) refl (spells-choice (map there original-rows) (λ n. before 132 (get_or original-rows n 65535)) original-subtype original-chosen original-branch)

-- ── the N-Header ──

link-id : Spells (items lm 88) (λ os. (length os ≡ 8) × Octets os) (λ os. map pos os) unpack
unfolding lm row_at row_of u16 row_items earlier
link-id = at 88 (FixedRun 8 0) refl (spells-octet-run 8 octet)

internal-fields : (e : Bool)
    → Spells (fields (before 170) (52 ∷ 0 ∷ 12 ∷ 88 ∷ 0 ∷ 44 ∷ 132 ∷ []) (true ∷ true ∷ true ∷ true ∷ true ∷ e ∷ true ∷ [])) (λ h. (flag h.extensions ≡ e) × InternalForwardingWithin h)
    (λ h. drop 2 (internal_forwarding_values h)) (λ h. drop 5 (internal_forwarding_bits h))
unfolding earlier bits_of
internal-fields e =
    spells_as
    (spells-field _ 52 _ _ version
    (spells-field _ 0 _ _ octet
    (spells-field _ 12 _ _ two-octets
    (spells-field _ 88 _ _ link-id
    (spells-field _ 0 _ _ octet
    (spells-extensions _ 44 _ _ e extensions
    (spells-field _ 132 _ _ original
    (spells_end _))))))))
    (λ h f. (
      (h.version, (h.direction, (h.scu_id, (h.link_id, (h.counter, (h.extensions, (h.original, tt))))))),
      (f.1.version, (f.1.direction, (f.1.scu_id, ((f.1.eight, f.1.link_id), (f.1.counter, ((f.0, f.1.extensions), (f.1.original, tt))))))),
      rw (append-nil (original_header_values h.original)),
      refl,
    ))
    (λ x f.
    let x4 = x.1.1.1.1 in
    let f4 = f.1.1.1.1 in (
      record { version = x.0; direction = x.1.0; scu_id = x.1.1.0; link_id = x.1.1.1.0; counter = x4.0; extensions = x4.1.0; original = x4.1.1.0 },
      (
        f4.1.0.0,
        record { version = f.0; direction = f.1.0; scu_id = f.1.1.0; link_id = f.1.1.1.0.1; eight = f.1.1.1.0.0; counter = f4.0; extensions = f4.1.0.1; original = f4.1.1.0 },
      ),
      rw (append-nil (original_header_values x4.1.1.0)),
    ))

internal : Spells (items lm 170) InternalForwardingWithin (λ h. drop 1 (internal_forwarding_values h)) (λ h. drop 4 (internal_forwarding_bits h))
unfolding lm row_at row_of u16 u16s row_items presence bits_of
internal =
    at 170 (Record (52 ∷ 0 ∷ 12 ∷ 88 ∷ 0 ∷ 44 ∷ 132 ∷ []) (0 ∷ 0 ∷ 0 ∷ 0 ∷ 0 ∷ 1 ∷ 0 ∷ [])) refl
    (spells-flag _ (λ (h : InternalForwarding). h.extensions) internal-fields)

abbrev subtype : NHeader → ℕ
subtype (null_networking h) = 0
subtype (internal_forwarding h) = 1
subtype (n_hop_forwarding h) = 2

abbrev network-rows : List ℕ
network-rows = 96 ∷ 170 ∷ 110 ∷ replicate 13 65535

network-chosen : (h : NHeader) → Chosen (map there network-rows) subtype n_header_values n_header_bits h
unfolding there width bits_of
network-chosen (null_networking h) = record { there = refl; value = refl; bits = refl }
network-chosen (internal_forwarding h) = record { there = refl; value = refl; bits = refl }
network-chosen (n_hop_forwarding h) = record { there = refl; value = refl; bits = refl }

network-null : (a : NHeader) → subtype a ≡ 0 → (h : NullNetworking) × (null_networking h ≡ a)
network-null (null_networking h) e = (h, refl)
network-null (internal_forwarding h) e = absurd (omega arith)
network-null (n_hop_forwarding h) e = absurd (omega arith)

network-internal : (a : NHeader) → subtype a ≡ 1 → (h : InternalForwarding) × (internal_forwarding h ≡ a)
network-internal (null_networking h) e = absurd (omega arith)
network-internal (internal_forwarding h) e = (h, refl)
network-internal (n_hop_forwarding h) e = absurd (omega arith)

network-n-hop : (a : NHeader) → subtype a ≡ 2 → (h : NHopForwarding) × (n_hop_forwarding h ≡ a)
network-n-hop (null_networking h) e = absurd (omega arith)
network-n-hop (internal_forwarding h) e = absurd (omega arith)
network-n-hop (n_hop_forwarding h) e = (h, refl)

network-branch : (n : ℕ) → get_or (map there network-rows) n false ≡ true
    → Spells (before 204 (get_or network-rows n 65535)) (λ a. (subtype a ≡ n) × NHeaderWithin a) (λ a. drop 1 (n_header_values a)) (λ a. drop 4 (n_header_bits a))
unfolding there earlier
network-branch zero h = spells-branch null_networking (λ y. refl) network-null null
network-branch (suc zero) h = spells-branch internal_forwarding (λ y. refl) network-internal internal
network-branch (suc (suc zero)) h = spells-branch n_hop_forwarding (λ y. refl) network-n-hop n-hop
network-branch (suc (suc (suc n))) h = absurd (reserved n 13 h)

pub network : Spells (items lm 204) NHeaderWithin n_header_values n_header_bits
unfolding lm row_at row_of u16 u16s row_items there width
network = at 204 (Choice network-rows) refl (spells-choice (map there network-rows) (λ n. before 204 (get_or network-rows n 65535)) subtype network-chosen network-branch)

-- ── the T-Header ──

address : Spells (items lm 242) (λ n. n ≤ 270549119) (λ n. pos n ∷ []) address_bits
unfolding lm row_at row_of u16 row_items
address = at 242 Variable refl spells-address

dissemination-fields : (e : Bool) → Spells (fields (before 246) (242 ∷ 44 ∷ []) (true ∷ e ∷ [])) (λ h. (flag h.extensions ≡ e) × DisseminationWithin h)
    (λ h. drop 2 (dissemination_values h)) (λ h. drop 8 (dissemination_bits h))
unfolding earlier bits_of
dissemination-fields e =
    spells_as
    (spells-field _ 242 _ _ address (spells_last _ 44 e extensions))
    (λ h f. ((h.destination, h.extensions), (f.1.destination, (f.0, f.1.extensions)), refl, refl))
    (λ x f. (record { destination = x.0; extensions = x.1 }, (f.1.0, record { destination = f.0; extensions = f.1.1 }), refl))

feature-zero : Spells (items lm 246) DisseminationWithin (λ h. drop 1 (dissemination_values h)) (λ h. drop 7 (dissemination_bits h))
unfolding lm row_at row_of u16 u16s row_items presence bits_of
feature-zero = at 246 (Record (242 ∷ 44 ∷ []) (0 ∷ 1 ∷ [])) refl (spells-flag _ (λ (h : Dissemination). h.extensions) dissemination-fields)

session-fields : (e : Bool) → Spells (fields (before 260) (12 ∷ 12 ∷ 44 ∷ []) (true ∷ true ∷ e ∷ [])) (λ h. (flag h.extensions ≡ e) × SessionWithin h)
    (λ h. drop 2 (session_values h)) (λ h. drop 8 (session_bits h))
unfolding earlier bits_of
session-fields e =
    spells_as
    (spells-field _ 12 _ _ two-octets (spells-field _ 12 _ _ two-octets (spells_last _ 44 e extensions)))
    (λ h f. ((h.source, (h.destination, h.extensions)), (f.1.source, (f.1.destination, (f.0, f.1.extensions))), refl, refl))
    (λ x f. (record { source = x.0; destination = x.1.0; extensions = x.1.1 }, (f.1.1.0, record { source = f.0; destination = f.1.0; extensions = f.1.1.1 }), refl))

feature_one : Spells (items lm 260) SessionWithin (λ h. drop 1 (session_values h)) (λ h. drop 7 (session_bits h))
unfolding lm row_at row_of u16 u16s row_items presence bits_of
feature_one = at 260 (Record (12 ∷ 12 ∷ 44 ∷ []) (0 ∷ 0 ∷ 1 ∷ [])) refl (spells-flag _ (λ (h : Session). h.extensions) session-fields)

abbrev feature : THeader → ℕ
feature (dissemination h) = 0
feature (session h) = 1

abbrev transport-rows : List ℕ
transport-rows = 246 ∷ 260 ∷ replicate 126 65535

transport-chosen : (h : THeader) → Chosen (map there transport-rows) feature t_header_values t_header_bits h
unfolding there width bits_of
transport-chosen (dissemination h) = record { there = refl; value = refl; bits = refl }
transport-chosen (session h) = record { there = refl; value = refl; bits = refl }

transport-zero : (a : THeader) → feature a ≡ 0 → (h : Dissemination) × (dissemination h ≡ a)
transport-zero (dissemination h) e = (h, refl)
transport-zero (session h) e = absurd (omega arith)

transport_one : (a : THeader) → feature a ≡ 1 → (h : Session) × (session h ≡ a)
transport_one (dissemination h) e = absurd (omega arith)
transport_one (session h) e = (h, refl)

transport-branch : (n : ℕ) → get_or (map there transport-rows) n false ≡ true
    → Spells (before 278 (get_or transport-rows n 65535)) (λ a. (feature a ≡ n) × THeaderWithin a) (λ a. drop 1 (t_header_values a)) (λ a. drop 7 (t_header_bits a))
unfolding there earlier
transport-branch zero h = spells-branch dissemination (λ y. refl) transport-zero feature-zero
transport-branch (suc zero) h = spells-branch session (λ y. refl) transport_one feature_one
transport-branch (suc (suc n)) h = absurd (reserved n 126 h)

pub transport : Spells (items lm 278) THeaderWithin t_header_values t_header_bits
unfolding lm row_at row_of u16 u16s row_items there width
transport = at 278 (Choice transport-rows) refl (spells-choice (map there transport-rows) (λ n. before 278 (get_or transport-rows n 65535)) feature transport-chosen transport-branch)

-- ── the LM ──

user-data : Spells (items lm 540) (λ os. Octets os × (length os ≤ 16383)) octets_values (λ os. length_bits (length os) ++ unpack os)
unfolding lm row_at row_of u16 row_items
user-data =
    at 540 (OctetsRow 0 16383) refl
    (spells_as (spells-octets 0)
    (λ os h. (os, (h.0, omega arith, h.1), refl, refl))
    (λ os h. (os, (h.0, h.2), refl)))

root-row : Spells (items lm 546) WellFormed values_of layout_bits
unfolding lm row_at row_of u16 u16s row_items presence earlier values_of layout_bits
root-row =
    at 546 (Record (204 ∷ 278 ∷ 540 ∷ []) (0 ∷ 0 ∷ 0 ∷ [])) refl
    (spells_as
    (spells-field _ 204 _ _ network (spells-field _ 278 _ _ transport (spells-field _ 540 _ _ user-data (spells_end _))))
    (λ l f. (
      (l.network, (l.transport, (l.user_data, tt))),
      (f.network, (f.transport, ((f.user_data, f.most), tt))),
      rw (append-nil (octets_values l.user_data)),
      simp append_assoc,
    ))
    (λ x f. (
      record { network = x.0; transport = x.1.0; user_data = x.1.1.0 },
      record { network = f.0; transport = f.1.0; user_data = f.1.1.0.0; most = f.1.1.0.1 },
      rw (append-nil (octets_values x.1.1.0)),
    )))

-- the table of LM is the layout of clause 5
pub layout : Spells (asks lm) WellFormed values_of layout_bits
unfolding asks
layout = subst (λ (o : ℕ). Spells (items lm o) WellFormed values_of layout_bits) (sym lm-root) root-row
