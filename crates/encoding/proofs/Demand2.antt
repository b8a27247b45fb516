-- Demand 2 holds of every table.
-- Assumes nothing.
use Prim.Native.Nat.{ℕ}
use mathlib.Core.Path.{◌≡◌, refl, sym, ap, ◌∙◌}
use mathlib.Core.List.{List}
use native.Mathlib.Omega.{arith}
use lib.ListN.{length, get_or, get_or-eq_default}
use Rattle.octets.specs.Numbers.{u16}
use Rattle.row.specs.Offsets.{earlier}
use Rattle.row.specs.Rows.{row_of, row_at}
use Rattle.rules.specs.Rules.{references, Starts, Obeys}
use Rattle.row.proofs.Offsets.{earlier-out}
use Rattle.table.proofs.LastRow.{root_is, is_root}
use Rattle.items.specs.Items.{stop, encoding_bits}
use Rattle.encoding.specs.Rows.{row_items, items, asks}
use Rattle.items.specs.Encoding.{size}
use Rattle.items.specs.Reading.{accept}
use Rattle.items.specs.Writing.{written}
use Rattle.encoding.specs.Demand2.{Demand2}
use Rattle.encoding.proofs.RowItems.{items-row, earlier-items, row_items_same}
use Rattle.items.proofs.Messages.{decode-sound}
use Rattle.items.proofs.Written.{encode-complete, encode-sound}
use Rattle.encoding.proofs.Demand3.{stands-decode, decode-stands, length-encoding, read-passed, write-passed}

module _ (t : List ℕ) (h : Obeys t) (o : ℕ) (s : Starts t o) where
  -- 65,535, the reference of a reserved branch, lies behind the longest table, and no row stands there
  none_there : items t 65535 ≡ stop
  unfolding row_at row_of u16 row_items
  none_there =
      let a : get_or t 65537 0 ≡ 0 = get_or-eq_default t 0 (omega (arith, h.most)) in
      let b : get_or t 65538 0 ≡ 0 = get_or-eq_default t 0 (omega (arith, h.most)) in
      items-row t 65535 ∙ rw (a, b) refl

  row-asks : items t o ≡ row_items (items t) (row_at t o)
  row-asks =
      items-row t o
      ∙ row_items_same (earlier stop o (items t)) (items t) (row_at t o) (earlier-items t o (references (row_at t o)) (h.rows o s).references_earlier)
      (λ rs e. earlier-out stop o (items t) 65535 (omega (arith, h.most, s.1)) ∙ sym none_there)

module _ (t : List ℕ) where
  pub demand2 : Demand2 t
  unfolding asks
  demand2 = record {
    row = λ h o s. row-asks t h o s;
    last = λ h. root_is t h;
    whole = λ h o r. ap (items t) (sym (is_root t h o r));
    reads = λ h s m room vs n. (
      (λ e. let d = sym (read-passed t h s m room) ∙ e in
          (decode-stands (asks t) s room vs n m d, sym (decode-sound (asks t) s room m.octets vs n d).taken)),
      (λ x. read-passed t h s m room ∙ (stands-decode (asks t) s room vs x.0 ∙ ap (accept vs) x.1)),
    );
    writes = λ h vs cap s. (
      (λ e. let a = encode-sound (asks t) vs cap s (sym (write-passed t h vs cap) ∙ e) in (a.allowed, a.octets, a.fits)),
      (λ x. let z : length s ≡ size (length (encoding_bits (asks t) vs)) = ap length (sym x.1) ∙ length-encoding (asks t) vs in
          write-passed t h vs cap ∙ (encode-complete (asks t) vs cap x.0 (omega (arith, x.2)) ∙ ap written x.1)),
    );
  }
