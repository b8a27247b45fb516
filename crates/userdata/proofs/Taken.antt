-- The values of an LM that was read: those of the two headers, then the length of the user data and its octets.
-- Assumes nothing.
use Prim.Native.Nat.{ℕ, suc, ◌+◌, ◌-◌, ◌*◌, ◌≤◌}
use mathlib.Core.Bool.{Bool, true, false, cond, ◌&&◌}
use mathlib.Core.Path.{◌≡◌, refl, sym, ap, ap₂, ◌∙◌}
use mathlib.Core.List.{List, [], ◌∷◌, ◌++◌, map, append_assoc}
use native.Mathlib.Omega.{arith}
use lib.Dec.{leb, eqb}
use lib.IntN.{ℤ, pos}
use lib.ListN.{length, length-append, length-map}
use lib.Seq.{get_or-append_seam}
use borrow.Author.Tests.{leb-true}
use Rattle.lm.proofs.Demand3Lm.{read_if-inv}
use Rattle.answer.specs.Numbers.{refusal_at}
use Rattle.octets.specs.Numbers.{u16, u16s}
use Rattle.bits.specs.Bits.{unpack}
use Rattle.bits.proofs.Bits.{length-unpack}
use Rattle.item.specs.Code.{natural}
use Rattle.row.specs.Rows.{row_of, row_at}
use Rattle.rules.specs.Rules.{All, Starts, Earlier, references}
use Rattle.table.proofs.LastRow.{root_is}
use Rattle.items.specs.Items.{Items, stop, ask, ◌then◌, Allows, encoding_bits}
use Rattle.encoding.specs.Rows.{items, asks, presence, fields}
use Rattle.items.specs.Encoding.{size}
use Rattle.items.specs.Reading.{Reading, done, stuck, prepend, read_items, accept, refuse, all_zero, close_read, decode}
use Rattle.items.specs.Walk.{forget, walk}
use Rattle.items.proofs.ReadItems.{bind, read-then, read-sound}
use Rattle.items.proofs.Runs.{then-assoc}
use Rattle.encoding.proofs.RowItems.{items-record}
use Rattle.builtin.specs.Tables.{lm}
use Rattle.builtin.proofs.Tables.{lm-obeys, lm-root}
use Rattle.lm.specs.ByName.{lm_version, lm_subtype, read_lm_outcome}
use Rattle.lm.specs.Clause5.{Lm, n_header_values, t_header_values, octets_values, values_of, layout_bits, WellFormed}
use Rattle.lm.proofs.Spelling.{spells_then}
use Rattle.lm.proofs.Rows.{network, transport, layout}
use Rattle.userdata.specs.UserData.{enough, headers, taken, data_length}
use Rattle.userdata.specs.Headers.{walk_count, header_count}

-- ── the rows of the headers ──

root-starts : Starts lm 546
root-starts = rw lm-root at (root_is lm lm-obeys).starts

root-refers : All (Earlier lm 546) (204 ∷ 278 ∷ 540 ∷ [])
unfolding lm row_at row_of u16 u16s references
root-refers = (lm-obeys.rows 546 root-starts).references_earlier

pub network-starts : Starts lm 204
unfolding lm
network-starts = (root-refers.0.0, omega arith)

pub transport-starts : Starts lm 278
unfolding lm
transport-starts = (root-refers.1.0.0, omega arith)

-- an LM is the headers and then the user data
asks-headers : asks lm ≡ headers then (items lm 540 then stop)
unfolding asks headers lm row_at row_of u16 u16s presence fields
asks-headers =
    ap (items lm) lm-root ∙ items-record lm 546 (204 ∷ 278 ∷ 540 ∷ []) (0 ∷ 0 ∷ 0 ∷ []) refl root-refers
    ∙ sym (then-assoc (items lm 204) (items lm 278) (items lm 540 then stop))

-- ── how many values the headers take ──

pub taken-append : (p : Items) (us ws : List ℤ) → Allows p us → taken p (us ++ ws) ≡ length us
taken-append stop [] ws h = refl
taken-append stop (u ∷ us) ws h = absurd h
taken-append (ask c k) [] ws h = absurd h
taken-append (ask c k) (u ∷ us) ws h = ap suc (taken-append (k u) us ws h.1)

-- a part that was read before another has as many as the whole list says
taken-read : (p q : Items) (b : List Bool) (room at : ℕ) (vs : List ℤ) (n : ℕ) (r : List Bool) → read_items (p then q) b room at ≡ done vs n r
    → walk_count (forget (read_items p b room at)) ≡ taken p vs
taken-read p q b room at vs n r e = go (read_items p b room at) refl (sym (read-then p q b room at) ∙ e)
  where
    behind : (us : List ℤ) (x : Reading) → prepend us x ≡ done vs n r → (ws : List ℤ) × (us ++ ws ≡ vs)
    behind us (done ws m s) e = (ws, cc)
    behind us (stuck refusal) e = let z : ◌≡◌ {A = ℕ} 0 1 = cc in absurd (omega arith)

    go : (x : Reading) → read_items p b room at ≡ x → bind room x (read_items q) ≡ done vs n r → walk_count (forget x) ≡ taken p vs
    go (stuck refusal) q e = let z : ◌≡◌ {A = ℕ} 0 1 = cc in absurd (omega arith)
    go (done us m s) f e =
        let w = behind us (read_items q s (room - length us) m) e in
        sym (taken-append p us w.0 (read-sound p b room at us m s f).allowed) ∙ ap (taken p) w.1

-- ── an LM that was read ──

module _ (l : Lm) (fine : WellFormed l) where
  abbrev front : List ℤ
  front = n_header_values l.network ++ t_header_values l.transport

  values-split : values_of l ≡ front ++ octets_values l.user_data
  unfolding values_of
  values-split = sym (append_assoc (n_header_values l.network) (t_header_values l.transport) (octets_values l.user_data))

  taken-front : taken headers (values_of l) ≡ length front
  unfolding headers
  taken-front =
      rw values-split
      (taken-append (items lm 204 then items lm 278) front _ ((spells_then network transport).allowed (l.network, l.transport) (fine.network, fine.transport)))

  pub length_is : data_length (values_of l) ≡ length l.user_data
  unfolding data_length
  length_is =
      rw (taken-front, values-split)
      (ap natural (get_or-append_seam front (pos (length l.user_data)) (map pos l.user_data) (pos 0)))

  pub count-is : length (values_of l) ≡ taken headers (values_of l) + suc (length l.user_data)
  count-is = rw (taken-front, values-split, length-append front (octets_values l.user_data), length-map) refl

pub data_within : (l : Lm) → 8 * length l.user_data ≤ length (layout_bits l)
unfolding layout_bits
data_within l = simp (length-append, length-unpack) (omega arith)

-- a message that is accepted, by its values
pub record Read (s : List ℕ) (vs : List ℤ) : Type 0 where
  pub most : length s ≤ 65535
  pub count : length vs ≡ header_count s + suc (data_length vs)
  pub within : data_length vs ≤ length s

module _ (s : List ℕ) (vs : List ℤ) (n : ℕ) where
  reading-inv : (x : Reading) → close_read (length s) x ≡ accept vs n → (at : ℕ) × (r : List Bool) × (x ≡ done vs at r)
  reading-inv (stuck refusal) e = let z : ◌≡◌ {A = ℕ} 0 1 = cc in absurd (omega arith)
  reading-inv (done us at r) e = (at, r, ap (λ us. done us at r) (test (eqb (length s) (size at) && all_zero r) e))
    where
      test : (t : Bool) → cond t (accept us at) (refuse (refusal_at 9 at)) ≡ accept vs n → us ≡ vs
      test true e = cc
      test false e = cc

  decoded : (s' : List ℕ) → s ≡ s' → decode (asks lm) s' enough ≡ accept vs n → (at : ℕ) × (r : List Bool) × (read_items (asks lm) (unpack s) enough 0 ≡ done vs at r)
  decoded [] q e = let z : ◌≡◌ {A = ℕ} 0 1 = cc in absurd (omega arith)
  decoded (o ∷ os) q e = reading-inv (read_items (asks lm) (unpack s) enough 0) (rw q e)

  read-values : length s ≤ 65535 → (at : ℕ) (r : List Bool) → read_items (asks lm) (unpack s) enough 0 ≡ done vs at r → Read s vs
  unfolding header_count walk
  read-values most at r e =
      let so = read-sound (asks lm) (unpack s) enough 0 vs at r e in
      let x = layout.only vs so.allowed in
      let l = x.0 in
      let h : header_count s ≡ taken headers vs = taken-read headers (items lm 540 then stop) (unpack s) enough 0 vs at r (ap (λ p. read_items p (unpack s) enough 0) (sym asks-headers) ∙ e) in
      let d : data_length vs ≡ length l.user_data = ap data_length (sym x.2) ∙ length_is l x.1 in
      let b : length (encoding_bits (asks lm) vs) ≡ length (layout_bits l) = ap (λ vs. length (encoding_bits (asks lm) vs)) (sym x.2) ∙ ap length (layout.laid l x.1) in
      let c : length vs ≡ taken headers vs + suc (length l.user_data) = rw x.2 at (count-is l x.1) in
      let t : length (encoding_bits (asks lm) vs) + length r ≡ 8 * length s = sym (length-append (encoding_bits (asks lm) vs) r) ∙ ap length (sym so.spelt) ∙ length-unpack s in
      record {
        most = most;
        count = c ∙ ap₂ (λ a b. a + suc b) (sym h) (sym d);
        within = omega (arith, data_within l);
      }

  pub read_is : read_lm_outcome s enough ≡ accept vs n → Read s vs
  unfolding read_lm_outcome
  read_is e =
      let c = read_if-inv (leb (length s) 65535) _ _ e in
      let d = read_if-inv (leb 1 (length s)) _ _ c.1 in
      let f = read_if-inv (eqb (lm_version s) 3) _ _ d.1 in
      let g = read_if-inv (leb (lm_subtype s) 2) _ _ f.1 in
      let x = decoded s refl g.1 in
      read-values (leb-true (length s) 65535 c.0) x.0 x.1 x.2
