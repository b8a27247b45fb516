-- Reading refuses with its own numbers alone, whatever items are asked for.
-- Assumes nothing.
use Prim.Native.Nat.{ℕ, zero, suc, ◌+◌, ◌*◌}
use mathlib.Core.Bool.{Bool, true, false, cond, ◌&&◌}
use mathlib.Core.Path.{◌≡◌, refl, subst}
use mathlib.Core.List.{List, [], ◌∷◌}
use lib.Dec.{leb, ltb, eqb}
use lib.IntN.{ℤ}
use lib.ListN.{length, get_or, drop}
use Rattle.answer.specs.Numbers.{refusal_at}
use Rattle.bits.specs.Access.{most_octets}
use Rattle.bits.specs.Bits.{width, unpack}
use Rattle.item.specs.Code.{Code, number, variable, length_within, index, value_bits, index_width, Got, got, bad, provided, bit_field, octet_field, ones_up_to, base, least_of, decode_offset, low_of, above, decode_item}
use Rattle.items.specs.Items.{Items, stop, ask}
use Rattle.items.specs.Encoding.{size}
use Rattle.items.specs.Reading.{Reading, done, stuck, prepend, read_one, read_items, ReadOutcome, accept, refuse, all_zero, close_read, decode, read_message}
use Rattle.items.specs.Numbered.{of_reading, ReadingNumbered}

-- ── one item ──

abbrev GotNumbered : {A : Type 0} → Got A → Type 0
GotNumbered (got v b) = Unit {0}
GotNumbered (bad n) = of_reading n ≡ true

provided-numbered : {A : Type 0} (b : Bool) (n : ℕ) (g : Got A) → of_reading n ≡ true → GotNumbered g → GotNumbered (provided b n g)
provided-numbered true n g h k = k
provided-numbered false n g h k = h

bits-numbered : {A : Type 0} (k : ℕ) (b : List Bool) (f : ℕ → List Bool → Got A) → ((n : ℕ) (r : List Bool) → GotNumbered (f n r)) → GotNumbered (bit_field k b f)
unfolding of_reading
bits-numbered k b f h = provided-numbered (leb k (length b)) 2 _ refl (h _ _)

octets-numbered : {A : Type 0} (top form : ℕ) (b : List Bool) (f : ℕ → ℕ → List Bool → Got A) → of_reading form ≡ true → ((c m : ℕ) (r : List Bool) → GotNumbered (f c m r))
    → GotNumbered (octet_field top form b f)
unfolding of_reading
octets-numbered top form b f h k =
    provided-numbered (leb 8 (length b)) 2 _ refl
    (provided-numbered (ltb (ones_up_to top b) top) form _ h
    (bits-numbered (7 * suc (ones_up_to top b)) (drop (suc (ones_up_to top b)) b) (f (ones_up_to top b)) (k (ones_up_to top b))))

offset-numbered : (c : Code) (b : List Bool) → GotNumbered (decode_offset c b)
unfolding of_reading
offset-numbered (number low span) b =
    bits-numbered (width span) b (λ n r. provided (leb n span) 3 (got n r)) (λ n r. provided-numbered (leb n span) 3 (got n r) refl tt)
offset-numbered variable b = octets-numbered 4 7 b (λ c m r. got (base c + m) r) refl (λ c m r. tt)
offset-numbered (length_within least most) b =
    octets-numbered 2 5 b (λ c m r. provided (leb (least_of c) m) 5 (provided (leb least m && leb m most) 6 (got m r))) refl (λ c m r.
    provided-numbered (leb (least_of c) m) 5 (provided (leb least m && leb m most) 6 (got m r)) refl
    (provided-numbered (leb least m && leb m most) 6 (got m r) refl tt))
offset-numbered (index branches) b =
    bits-numbered (index_width branches) b (λ n r. provided (get_or branches n false) 4 (got n r)) (λ n r. provided-numbered (get_or branches n false) 4 (got n r) refl tt)

above_numbered : (low : ℤ) (g : Got ℕ) → GotNumbered g → GotNumbered (above low g)
above_numbered low (got n r) h = tt
above_numbered low (bad n) h = h

-- ── items in order ──

abbrev StuckNumbered : Reading → Type 0
StuckNumbered (done vs at b) = Unit {0}
StuckNumbered (stuck r) = of_reading r.number ≡ true

prepend-numbered : (us : List ℤ) (x : Reading) → StuckNumbered x → StuckNumbered (prepend us x)
prepend-numbered us (done vs at b) h = tt
prepend-numbered us (stuck r) h = h

one_numbered : (at : ℕ) (g : Got ℤ) (room : ℕ) (f : ℤ → List Bool → ℕ → Reading) → GotNumbered g → ((v : ℤ) (b : List Bool) (n : ℕ) → StuckNumbered (f v b n))
    → StuckNumbered (read_one at g room f)
unfolding of_reading
one_numbered at (bad n) room f h k = h
one_numbered at (got v b) zero f h k = refl
one_numbered at (got v b) (suc room) f h k = prepend-numbered (v ∷ []) (f v b room) (k v b room)

items-numbered : (p : Items) (b : List Bool) (room at : ℕ) → StuckNumbered (read_items p b room at)
items-numbered stop b room at = tt
items-numbered (ask c k) b room at =
    one_numbered at (decode_item c b) room _ (above_numbered (low_of c) (decode_offset c b) (offset-numbered c b))
    (λ v b' room'. items-numbered (k v) b' room' (at + length (value_bits c v)))

-- ── a message ──

abbrev RefusedNumbered : ReadOutcome → Type 0
RefusedNumbered (accept vs bits) = Unit {0}
RefusedNumbered (refuse r) = of_reading r.number ≡ true

close-numbered : (n : ℕ) (x : Reading) → StuckNumbered x → RefusedNumbered (close_read n x)
unfolding of_reading
close-numbered n (stuck r) h = h
close-numbered n (done vs at b) h = go (eqb n (size at) && all_zero b)
  where
    go : (x : Bool) → RefusedNumbered (cond x (accept vs at) (refuse (refusal_at 9 at)))
    go true = tt
    go false = refl

decode-numbered : (p : Items) (s : List ℕ) (room : ℕ) → RefusedNumbered (decode p s room)
unfolding of_reading
decode-numbered p [] room = refl
decode-numbered p (o ∷ os) room = close-numbered (length (o ∷ os)) (read_items p (unpack (o ∷ os)) room 0) (items-numbered p (unpack (o ∷ os)) room 0)

message-numbered : (p : Items) (s : List ℕ) (room : ℕ) → RefusedNumbered (read_message p s room)
unfolding of_reading
message-numbered p s room = go (leb (length s) most_octets)
  where
    go : (x : Bool) → RefusedNumbered (cond x (decode p s room) (refuse (refusal_at 13 0)))
    go true = decode-numbered p s room
    go false = refl

pub reading-numbered : ReadingNumbered
reading-numbered = record { numbered = λ p s room number place e. subst (λ (x : ReadOutcome). RefusedNumbered x) e (message-numbered p s room) }
