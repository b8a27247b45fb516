-- No item of an LM takes no bits: so there are at most as many values as bits, and with room for so many, room plays no part.
-- Assumes nothing.
use Prim.Native.Nat.{ℕ, zero, suc, ◌+◌, ◌-◌, ◌*◌, ◌≤◌}
use mathlib.Core.Bool.{Bool, true, false, cond, ◌&&◌}
use mathlib.Core.Path.{◌≡◌, refl, sym, ap, ◌∙◌, subst}
use mathlib.Core.Logic.{◌≢◌}
use mathlib.Core.List.{List, [], ◌∷◌, map}
use native.Mathlib.Omega.{arith}
use lib.Dec.{leb, ltb, eqb}
use lib.IntN.{ℤ, pos, ◌-ℤ◌}
use lib.ListN.{length, drop, get_or, replicate, length-append}
use borrow.Author.Tests.{leb-true}
use Rattle.answer.specs.Numbers.{refusal_at}
use Rattle.answer.specs.declared.Refusal.{Refusal}
use Rattle.octets.specs.Numbers.{u16, u32, signed, u16s, there}
use Rattle.bits.specs.Bits.{width, unpack}
use Rattle.bits.proofs.Bits.{length-bits_of, length-unpack}
use Rattle.item.specs.Code.{Code, number, variable, length_within, index, index_width, spelling, natural, value_bits, Got, got, bad, provided, bit_field, ones_up_to, octet_field, least_of, base, variable_ones, length_ones, low_of, decode_offset, above, decode_item}
use Rattle.item.proofs.CodeLaws.{length-leading, decode_item-sound}
use Rattle.row.specs.Offsets.{earlier}
use Rattle.row.specs.Rows.{Row, Number, Variable, FixedRun, CountedRun, Record, Choice, Octets, Unknown, row_of, row_at}
use Rattle.rules.specs.Rules.{All}
use Rattle.items.specs.Items.{Items, stop, ask, Allows, encoding_bits}
use Rattle.encoding.specs.Rows.{row_items, items, asks}
use Rattle.items.specs.Encoding.{size}
use Rattle.items.specs.Reading.{Reading, done, stuck, prepend, read_one, read_items, ReadOutcome, accept, refuse, all_zero, close_read, decode}
use Rattle.encoding.proofs.RowItems.{items-row}
use Rattle.encoding.proofs.Every.{Every, Codes, Below, every-row}
use Rattle.builtin.specs.Tables.{lm}
use Rattle.builtin.proofs.Tables.{lm-root}
use Rattle.lm.specs.ByName.{lm_version, lm_subtype, read_if, read_lm_outcome}
use Rattle.userdata.specs.UserData.{enough}

-- ── items that each take a bit ──

-- a code whose every value takes a bit at least
abbrev Bits : Code → Type 0
Bits c = (v : ℤ) → 1 ≤ length (value_bits c v)

abbrev Costs : Items → Type 0
Costs = Every Bits

spelling_costs : (c m : ℕ) → 1 ≤ length (spelling c m)
spelling_costs c m = simp (length-append, length-leading) (omega arith)

variable_costs : (v : ℤ) → 1 ≤ length (value_bits variable v)
variable_costs v =
    let n = natural (v -ℤ pos 0) in
    spelling_costs (variable_ones n) (n - base (variable_ones n))

length_costs : (least most : ℕ) (v : ℤ) → 1 ≤ length (value_bits (length_within least most) v)
length_costs least most v =
    let n = natural (v -ℤ pos 0) in
    spelling_costs (length_ones n) n

number_costs : (low : ℤ) (span : ℕ) → 1 ≤ width span → (v : ℤ) → 1 ≤ length (value_bits (number low span) v)
number_costs low span h v = rw length-bits_of h

module _ (g : ℕ → Items) where
  reserved_costs : (n : ℕ) → Costs (g 65535) → All (λ r. Costs (g r)) (replicate n 65535)
  reserved_costs zero z = tt
  reserved_costs (suc n) z = (z, reserved_costs n z)

  -- what a row owes for it
  abbrev RowCosts : Row → Type 0
  RowCosts (Number low span) = 1 ≤ width span
  RowCosts Variable = Unit {0}
  RowCosts (FixedRun count r) = Costs (g r)
  RowCosts (CountedRun most r) = Costs (g r)
  RowCosts (Record rs flags) = All (λ r. Costs (g r)) rs
  RowCosts (Choice rs) = (1 ≤ index_width (map there rs)) × All (λ r. Costs (g r)) rs × Costs (g 65535)
  RowCosts (Octets least most) = Unit {0}
  RowCosts Unknown = Unit {0}

  row-codes : (r : Row) → RowCosts r → Codes Bits r
  unfolding width
  row-codes (Number low span) h = number_costs low span h
  row-codes Variable h = variable_costs
  row-codes (FixedRun count r) h = tt
  row-codes (CountedRun most r) h = length_costs 0 most
  row-codes (Record rs flags) h = number_costs (pos 0) 1 (omega arith)
  row-codes (Choice rs) h = λ v. rw length-bits_of h.0
  row-codes (Octets least most) h = (length_costs least most, number_costs (pos 0) 255 (omega arith))
  row-codes Unknown h = tt

  row_below : (r : Row) → RowCosts r → Below Costs g r
  row_below (Number low span) h = tt
  row_below Variable h = tt
  row_below (FixedRun count r) h = h
  row_below (CountedRun most r) h = h
  row_below (Record rs flags) h = h
  row_below (Choice rs) h = (h.1, h.2)
  row_below (Octets least most) h = tt
  row_below Unknown h = tt

  row_costs : (r : Row) → RowCosts r → Costs (row_items g r)
  row_costs r h = every-row Bits g r (row-codes r h) (row_below r h)

-- ── the rows of LM ──

abbrev before : ℕ → ℕ → Items
before o = earlier stop o (items lm)

at : (o : ℕ) (r : Row) → row_at lm o ≡ r → RowCosts (before o) r → Costs (items lm o)
at o r e h = subst (λ (p : Items). Costs p) (sym (items-row lm o ∙ ap (row_items (before o)) e)) (row_costs (before o) r h)

octet : Costs (items lm 0)
unfolding lm row_at row_of u16 u32 signed width
octet = at 0 (Number (pos 0) 255) refl (omega arith)

two-octets : Costs (items lm 12)
unfolding lm row_at row_of u16 u32 signed width
two-octets = at 12 (Number (pos 0) 65535) refl (omega arith)

contents : Costs (items lm 24)
unfolding lm row_at row_of u16
contents = at 24 (Octets 1 16383) refl tt

element : Costs (items lm 30)
unfolding lm row_at row_of u16 u16s earlier
element = at 30 (Record (0 ∷ 24 ∷ []) (0 ∷ 0 ∷ [])) refl (octet, (contents, tt))

extensions : Costs (items lm 44)
unfolding lm row_at row_of u16 earlier
extensions = at 44 (CountedRun 255 30) refl element

version : Costs (items lm 52)
unfolding lm row_at row_of u16 u32 signed width
version = at 52 (Number (pos 0) 7) refl (omega arith)

message-id : Costs (items lm 64)
unfolding lm row_at row_of u16 u32 signed width
message-id = at 64 (Number (pos 0) 4194303) refl (omega arith)

hop-count : Costs (items lm 76)
unfolding lm row_at row_of u16 u32 signed width
hop-count = at 76 (Number (pos 0) 3) refl (omega arith)

link-id : Costs (items lm 88)
unfolding lm row_at row_of u16 earlier
link-id = at 88 (FixedRun 8 0) refl octet

null : Costs (items lm 96)
unfolding lm row_at row_of u16 u16s earlier
null = at 96 (Record (52 ∷ 44 ∷ []) (0 ∷ 1 ∷ [])) refl (version, (extensions, tt))

n-hop : Costs (items lm 110)
unfolding lm row_at row_of u16 u16s earlier
n-hop = at 110 (Record (52 ∷ 64 ∷ 76 ∷ 44 ∷ []) (0 ∷ 0 ∷ 0 ∷ 1 ∷ [])) refl (version, (message-id, (hop-count, (extensions, tt))))

original : Costs (items lm 132)
unfolding lm row_at row_of u16 u16s earlier there width
original = at 132 (Choice (96 ∷ 65535 ∷ 110 ∷ replicate 13 65535)) refl (omega arith, (null, (tt, (n-hop, reserved_costs (before 132) 13 tt))), tt)

internal : Costs (items lm 170)
unfolding lm row_at row_of u16 u16s earlier
internal =
    at 170 (Record (52 ∷ 0 ∷ 12 ∷ 88 ∷ 0 ∷ 44 ∷ 132 ∷ []) (0 ∷ 0 ∷ 0 ∷ 0 ∷ 0 ∷ 1 ∷ 0 ∷ [])) refl
    (version, (octet, (two-octets, (link-id, (octet, (extensions, (original, tt)))))))

network : Costs (items lm 204)
unfolding lm row_at row_of u16 u16s earlier there width
network = at 204 (Choice (96 ∷ 170 ∷ 110 ∷ replicate 13 65535)) refl (omega arith, (null, (internal, (n-hop, reserved_costs (before 204) 13 tt))), tt)

address : Costs (items lm 242)
unfolding lm row_at row_of u16
address = at 242 Variable refl tt

dissemination : Costs (items lm 246)
unfolding lm row_at row_of u16 u16s earlier
dissemination = at 246 (Record (242 ∷ 44 ∷ []) (0 ∷ 1 ∷ [])) refl (address, (extensions, tt))

session : Costs (items lm 260)
unfolding lm row_at row_of u16 u16s earlier
session = at 260 (Record (12 ∷ 12 ∷ 44 ∷ []) (0 ∷ 0 ∷ 1 ∷ [])) refl (two-octets, (two-octets, (extensions, tt)))

transport : Costs (items lm 278)
unfolding lm row_at row_of u16 u16s earlier there width
transport = at 278 (Choice (246 ∷ 260 ∷ replicate 126 65535)) refl (omega arith, (dissemination, (session, reserved_costs (before 278) 126 tt)), tt)

user-data : Costs (items lm 540)
unfolding lm row_at row_of u16
user-data = at 540 (Octets 0 16383) refl tt

message : Costs (items lm 546)
unfolding lm row_at row_of u16 u16s earlier
message = at 546 (Record (204 ∷ 278 ∷ 540 ∷ []) (0 ∷ 0 ∷ 0 ∷ [])) refl (network, (transport, (user-data, tt)))

lm_costs : Costs (asks lm)
unfolding asks
lm_costs = subst (λ (o : ℕ). Costs (items lm o)) (sym lm-root) message

-- ── at most as many values as bits ──

costs_count : (p : Items) → Costs p → (vs : List ℤ) → Allows p vs → length vs ≤ length (encoding_bits p vs)
costs_count stop h [] a = omega arith
costs_count stop h (v ∷ vs) a = absurd a
costs_count (ask c k) h [] a = absurd a
costs_count (ask c k) h (v ∷ vs) a = rw (length-append (value_bits c v)) (omega (arith, h.0 v, costs_count (k v) (h.1 v) vs a.1))

pub lm-count : (vs : List ℤ) → Allows (asks lm) vs → length vs ≤ length (encoding_bits (asks lm) vs)
lm-count = costs_count (asks lm) lm_costs

-- ── an item is not refused by 8 ──

module _ {A : Type 0} (m : ℕ) where
  provided_other : (t : Bool) (n : ℕ) (g : Got A) → n ≢ 8 → (g ≡ bad m → m ≢ 8) → provided t n g ≡ bad m → m ≢ 8
  provided_other true n g h k e = k e
  provided_other false n g h k e = λ q. let z : n ≡ m = cc in h (z ∙ q)

  got_other : (v : A) (r : List Bool) → got v r ≡ bad m → m ≢ 8
  got_other v r e = let z : ◌≡◌ {A = ℕ} 0 1 = cc in absurd (omega arith)

  bits_other : (k : ℕ) (b : List Bool) (f : ℕ → List Bool → Got A) → ((n : ℕ) (r : List Bool) → f n r ≡ bad m → m ≢ 8) → bit_field k b f ≡ bad m → m ≢ 8
  bits_other k b f h e = provided_other (leb k (length b)) 2 _ (λ q. omega (arith, q)) (h _ _) e

  octets_other : (top form : ℕ) → form ≢ 8 → (b : List Bool) (f : ℕ → ℕ → List Bool → Got A) → ((c n : ℕ) (r : List Bool) → f c n r ≡ bad m → m ≢ 8)
      → octet_field top form b f ≡ bad m → m ≢ 8
  octets_other top form n b f h e =
      provided_other (leb 8 (length b)) 2 _ (λ q. omega (arith, q))
      (provided_other (ltb (ones_up_to top b) top) form _ n (bits_other (7 * suc (ones_up_to top b)) (drop (suc (ones_up_to top b)) b) (f (ones_up_to top b)) (h (ones_up_to top b)))) e

offset_other : (c : Code) (b : List Bool) (m : ℕ) → decode_offset c b ≡ bad m → m ≢ 8
offset_other (number low span) b m e = bits_other m (width span) b _ (λ n r. provided_other m (leb n span) 3 _ (λ q. omega (arith, q)) (got_other m n r)) e
offset_other variable b m e = octets_other m 4 7 (λ q. omega (arith, q)) b _ (λ c n r. got_other m (base c + n) r) e
offset_other (length_within least most) b m e =
    octets_other m 2 5 (λ q. omega (arith, q)) b _
    (λ c n r. provided_other m (leb (least_of c) n) 5 _ (λ q. omega (arith, q)) (provided_other m (leb least n && leb n most) 6 _ (λ q. omega (arith, q)) (got_other m n r))) e
offset_other (index branches) b m e =
    bits_other m (index_width branches) b _ (λ n r. provided_other m (get_or branches n false) 4 _ (λ q. omega (arith, q)) (got_other m n r)) e

item_other : (c : Code) (b : List Bool) (m : ℕ) → decode_item c b ≡ bad m → m ≢ 8
item_other c b m e = go (decode_offset c b) refl e
  where
    go : (g : Got ℕ) → decode_offset c b ≡ g → above (low_of c) g ≡ bad m → m ≢ 8
    go (got n r) q e = let z : ◌≡◌ {A = ℕ} 0 1 = cc in absurd (omega arith)
    go (bad n) q e = let z : n ≡ m = cc in offset_other c b m (q ∙ ap (λ n. bad n) z)

-- ── room ──

-- the bits after an item that takes one
shorter : (c : Code) (b : List Bool) (v : ℤ) (r : List Bool) → 1 ≤ length (value_bits c v) → decode_item c b ≡ got v r → suc (length r) ≤ length b
shorter c b v r h e =
    let l : length b ≡ length (value_bits c v) + length r = ap length (decode_item-sound c b e).1 ∙ length-append (value_bits c v) r in
    omega arith

same_room : (p : Items) → Costs p → (b : List Bool) (room room' at : ℕ) → length b ≤ room → length b ≤ room' → read_items p b room at ≡ read_items p b room' at
same_room stop h b room room' at l l' = refl
same_room (ask c k) h b room room' at l l' = go (decode_item c b) refl room room' l l' (λ v. same_room (k v) (h.1 v))
  where
    go : (g : Got ℤ) → decode_item c b ≡ g → (room room' : ℕ) → length b ≤ room → length b ≤ room'
        → ((v : ℤ) (b : List Bool) (room room' at : ℕ) → length b ≤ room → length b ≤ room' → read_items (k v) b room at ≡ read_items (k v) b room' at)
        → read_one at g room (λ v b' room'. read_items (k v) b' room' (at + length (value_bits c v)))
        ≡ read_one at g room' (λ v b' room'. read_items (k v) b' room' (at + length (value_bits c v)))
    go (bad n) e room room' l l' ih = refl
    go (got v r) e zero room' l l' ih = absurd (omega (arith, shorter c b v r (h.0 v) e))
    go (got v r) e (suc room) zero l l' ih = absurd (omega (arith, shorter c b v r (h.0 v) e))
    go (got v r) e (suc room) (suc room') l l' ih =
        let d = shorter c b v r (h.0 v) e in
        ap (prepend (v ∷ [])) (ih v r room room' (at + length (value_bits c v)) (omega arith) (omega arith))

never_full : (p : Items) → Costs p → (b : List Bool) (room at : ℕ) → length b ≤ room → (refusal : Refusal) → read_items p b room at ≡ stuck refusal → refusal.number ≢ 8
never_full stop h b room at l refusal e = let z : ◌≡◌ {A = ℕ} 0 1 = cc in absurd (omega arith)
never_full (ask c k) h b room at l refusal e = go (decode_item c b) refl room l (λ v. never_full (k v) (h.1 v)) e
  where
    behind : (us : List ℤ) (x : Reading) → prepend us x ≡ stuck refusal → x ≡ stuck refusal
    behind us (done vs at b) e = let z : ◌≡◌ {A = ℕ} 0 1 = cc in absurd (omega arith)
    behind us (stuck by) e = e

    go : (g : Got ℤ) → decode_item c b ≡ g → (room : ℕ) → length b ≤ room
        → ((v : ℤ) (b : List Bool) (room at : ℕ) → length b ≤ room → (refusal : Refusal) → read_items (k v) b room at ≡ stuck refusal → refusal.number ≢ 8)
        → read_one at g room (λ v b' room'. read_items (k v) b' room' (at + length (value_bits c v))) ≡ stuck refusal → refusal.number ≢ 8
    go (bad m) q room l ih e =
        let y : refusal_at m at ≡ refusal = cc in
        let z : m ≡ refusal.number = ap (λ (x : Refusal). x.number) y in
        item_other c b refusal.number (q ∙ ap (λ n. bad n) z)
    go (got v r) q zero l ih e = absurd (omega (arith, shorter c b v r (h.0 v) q))
    go (got v r) q (suc room) l ih e =
        let d = shorter c b v r (h.0 v) q in
        ih v r room (at + length (value_bits c v)) (omega arith) refusal (behind (v ∷ []) _ e)

-- ── an LM ──

decode-room : (s : List ℕ) (room : ℕ) → length s ≤ 65535 → enough ≤ room → decode (asks lm) s room ≡ decode (asks lm) s enough
decode-room [] room h l = refl
decode-room (o ∷ os) room h l =
    let s = o ∷ os in
    let b = length-unpack s in
    ap (close_read (length s)) (same_room (asks lm) lm_costs (unpack s) room enough 0 (omega arith) (omega arith))

pub lm-room : (s : List ℕ) (room : ℕ) → enough ≤ room → read_lm_outcome s room ≡ read_lm_outcome s enough
unfolding read_lm_outcome
lm-room s room l = go (leb (length s) 65535) refl
  where
    go : (t : Bool) → leb (length s) 65535 ≡ t
        → read_if t (refusal_at 13 0) (read_if (leb 1 (length s)) (refusal_at 2 0) (read_if (eqb (lm_version s) 3) (refusal_at 10 5) (read_if (leb (lm_subtype s) 2) (refusal_at 11 0) (decode (asks lm) s room))))
        ≡ read_if t (refusal_at 13 0) (read_if (leb 1 (length s)) (refusal_at 2 0) (read_if (eqb (lm_version s) 3) (refusal_at 10 5) (read_if (leb (lm_subtype s) 2) (refusal_at 11 0) (decode (asks lm) s enough))))
    go false e = refl
    go true e =
        ap (λ x. read_if (leb 1 (length s)) (refusal_at 2 0) (read_if (eqb (lm_version s) 3) (refusal_at 10 5) (read_if (leb (lm_subtype s) 2) (refusal_at 11 0) x)))
        (decode-room s room (leb-true (length s) 65535 e) l)

-- a refusal of another number than 8
other : (n p : ℕ) (refusal : Refusal) → n ≢ 8 → refuse (refusal_at n p) ≡ refuse refusal → refusal.number ≢ 8
other n p refusal h e =
    let y : refusal_at n p ≡ refusal = cc in
    λ z. h (ap (λ (x : Refusal). x.number) y ∙ z)

close_other : (n : ℕ) (x : Reading) → ((by : Refusal) → x ≡ stuck by → by.number ≢ 8) → (refusal : Refusal) → close_read n x ≡ refuse refusal → refusal.number ≢ 8
close_other n (stuck by) h refusal e = let z : by ≡ refusal = cc in rw z at (h by refl)
close_other n (done vs at b) h refusal e = go (eqb n (size at) && all_zero b) e
  where
    go : (t : Bool) → cond t (accept vs at) (refuse (refusal_at 9 at)) ≡ refuse refusal → refusal.number ≢ 8
    go true e = let z : ◌≡◌ {A = ℕ} 0 1 = cc in absurd (omega arith)
    go false e = other 9 at refusal (λ q. omega (arith, q)) e

decode_other : (s : List ℕ) (room : ℕ) → length s ≤ 65535 → enough ≤ room → (refusal : Refusal) → decode (asks lm) s room ≡ refuse refusal → refusal.number ≢ 8
decode_other [] room h l refusal = other 2 0 refusal (λ q. omega (arith, q))
decode_other (o ∷ os) room h l refusal =
    let s = o ∷ os in
    let b = length-unpack s in
    close_other (length s) (read_items (asks lm) (unpack s) room 0) (never_full (asks lm) lm_costs (unpack s) room 0 (omega arith)) refusal

read_if_other : (t : Bool) (n p : ℕ) (x : ReadOutcome) (refusal : Refusal) → n ≢ 8 → (t ≡ true → x ≡ refuse refusal → refusal.number ≢ 8)
    → read_if t (refusal_at n p) x ≡ refuse refusal → refusal.number ≢ 8
read_if_other true n p x refusal h k = k refl
read_if_other false n p x refusal h k = other n p refusal h

pub lm_never : (s : List ℕ) (room : ℕ) → enough ≤ room → (refusal : Refusal) → read_lm_outcome s room ≡ refuse refusal → refusal.number ≢ 8
unfolding read_lm_outcome
lm_never s room l refusal =
    read_if_other (leb (length s) 65535) 13 0 _ refusal (λ q. omega (arith, q))
    (λ most. read_if_other (leb 1 (length s)) 2 0 _ refusal (λ q. omega (arith, q))
    (λ some. read_if_other (eqb (lm_version s) 3) 10 5 _ refusal (λ q. omega (arith, q))
    (λ three. read_if_other (leb (lm_subtype s) 2) 11 0 _ refusal (λ q. omega (arith, q))
    (λ subtype. decode_other s room (leb-true (length s) 65535 most) l refusal))))
