-- A message and the list that it stands for: reading accepts exactly the encodings of the allowed lists that fit, with the
-- list and the bits that it takes; one list for each message, and one message for each list.
-- Assumes nothing.
use Prim.Native.Nat.{ℕ, zero, suc, ◌+◌, ◌-◌, ◌*◌, ◌≤◌, ◌<◌}
use mathlib.Core.Bool.{Bool, true, false, cond, ◌&&◌, false≢true, and-eq-true_iff}
use mathlib.Core.Path.{◌≡◌, refl, sym, ap, ap₂, ◌∙◌}
use mathlib.Core.Logic.{◌↔◌}
use mathlib.Core.List.{List, [], ◌∷◌, ◌++◌}
use native.Mathlib.Omega.{arith}
use native.Mathlib.Nat.{zero-add}
use lib.Dec.{leb, eqb}
use lib.IntN.{ℤ}
use lib.ListN.{length, get_or, replicate, length-append, length-replicate}
use Rattle.answer.specs.Numbers.{refusal_at}
use Rattle.bits.specs.Bits.{unpack, pack}
use Rattle.bits.proofs.Bits.{length-unpack, length-pack, unpack-pack, pack-unpack}
use Rattle.items.specs.Items.{Items, Allows, encoding_bits}
use Rattle.items.specs.Encoding.{size, padding, encoding}
use Rattle.items.specs.Reading.{Reading, done, stuck, read_items, ReadOutcome, accept, refuse, all_zero, close_read, decode, read_message, read_values}
use Rattle.items.proofs.ReadItems.{read-complete, read-sound}
use borrow.Author.Tests.{eqb-true, eq-eqb}

all_zero-inv : (b : List Bool) → all_zero b ≡ true → b ≡ replicate (length b) false
all_zero-inv [] h = refl
all_zero-inv (true ∷ b) h = absurd (false≢true h)
all_zero-inv (false ∷ b) h = ap (false ∷◌) (all_zero-inv b h)

all_zero-replicate : (n : ℕ) → all_zero (replicate n false) ≡ true
all_zero-replicate zero = refl
all_zero-replicate (suc n) = all_zero-replicate n

pub decode-close : (p : Items) (s : List ℕ) (room : ℕ) → 0 < length s → decode p s room ≡ close_read (length s) (read_items p (unpack s) room 0)
decode-close p [] room h = absurd (omega arith)
decode-close p (o ∷ os) room h = refl

length-padded : (b : List Bool) → length (b ++ padding (length b)) ≡ 8 * size (length b)
length-padded b = rw (length-append, length-replicate) (omega arith)

pub decode-complete : (p : Items) (vs : List ℤ) (room : ℕ) → Allows p vs → length vs ≤ room → decode p (encoding p vs) room ≡ accept vs (length (encoding_bits p vs))
decode-complete p vs room h l =
    let b = encoding_bits p vs in
    let n = length-pack (size (length b)) (b ++ padding (length b)) in
    rw (
      decode-close p (encoding p vs) room (omega arith),
      unpack-pack (size (length b)) (b ++ padding (length b)) (length-padded b),
      read-complete p vs (padding (length b)) room 0 h l,
      zero-add,
      n,
      eq-eqb (size (length b)) (size (length b)) refl,
      all_zero-replicate,
    )

-- an accepted message
pub record Accepted (p : Items) (s : List ℕ) (room : ℕ) (vs : List ℤ) (n : ℕ) : Type 0 where
  pub allowed : Allows p vs
  pub fits : length vs ≤ room
  pub octets : encoding p vs ≡ s
  pub taken : n ≡ length (encoding_bits p vs)

cond-inv : (t : Bool) (x : List ℤ) (n m : ℕ) {y : List ℤ} {k : ℕ} → cond t (accept x n) (refuse (refusal_at 9 m)) ≡ accept y k → (t ≡ true) × (x ≡ y) × (n ≡ k)
cond-inv true x n m e = (refl, cc, cc)
cond-inv false x n m e = (cc, cc, cc)

-- what is accepted fits the room, of any numbers as octets
pub decode_fits : (p : Items) (s : List ℕ) (room : ℕ) (vs : List ℤ) (n : ℕ) → decode p s room ≡ accept vs n → length vs ≤ room
decode_fits p [] room vs n e = let z : ◌≡◌ {A = ℕ} 0 1 = cc in absurd (omega arith)
decode_fits p (o ∷ os) room vs n e = go (read_items p (unpack (o ∷ os)) room 0) refl e
  where
    go : (x : Reading) → read_items p (unpack (o ∷ os)) room 0 ≡ x → close_read (length (o ∷ os)) x ≡ accept vs n → length vs ≤ room
    go (stuck refusal) q e = let z : ◌≡◌ {A = ℕ} 0 1 = cc in absurd (omega arith)
    go (done us at r) q e = rw (← (cond-inv (eqb (length (o ∷ os)) (size at) && all_zero r) us at at e).1) (read-sound p (unpack (o ∷ os)) room 0 us at r q).fits

module _ (p : Items) (s : List ℕ) (room : ℕ) (bytes : (i : ℕ) → get_or s i 0 < 256) (vs : List ℤ) (n : ℕ) where
  close_read-sound : (x : Reading) → read_items p (unpack s) room 0 ≡ x → close_read (length s) x ≡ accept vs n → Accepted p s room vs n
  close_read-sound (stuck refusal) q e = let z : ◌≡◌ {A = ℕ} 0 1 = cc in absurd (omega arith)
  close_read-sound (done ws at r) q e =
      let x = read-sound p (unpack s) room 0 ws at r q in
      let c = cond-inv (eqb (length s) (size at) && all_zero r) ws at at e in
      let t = (and-eq-true_iff (eqb (length s) (size at)) (all_zero r)).0 c.0 in
      let l : length s ≡ size at = eqb-true (length s) (size at) t.0 in
      let a : at ≡ length (encoding_bits p ws) = x.ends ∙ zero-add _ in
      let l' : length s ≡ size (length (encoding_bits p ws)) = l ∙ ap (λ k. size k) a in
      let m : length (encoding_bits p ws) + length r ≡ 8 * length s = sym (length-append (encoding_bits p ws) r) ∙ ap length (sym x.spelt) ∙ length-unpack s in
      let d : length r ≡ 8 * size (length (encoding_bits p ws)) - length (encoding_bits p ws) = omega arith in
      let z : r ≡ padding (length (encoding_bits p ws)) = all_zero-inv r t.1 ∙ ap (λ k. replicate k false) d in
      let o : encoding p ws ≡ s = ap₂ pack (sym l') (ap (encoding_bits p ws ++◌) (sym z) ∙ sym x.spelt) ∙ pack-unpack s bytes in
      rw (← c.1) (record { allowed = x.allowed; fits = x.fits; octets = o; taken = sym c.2 ∙ a })

pub decode-sound : (p : Items) (s : List ℕ) (room : ℕ) → ((i : ℕ) → get_or s i 0 < 256) → (vs : List ℤ) (n : ℕ) → decode p s room ≡ accept vs n → Accepted p s room vs n
decode-sound p [] room h vs n e = let z : ◌≡◌ {A = ℕ} 0 1 = cc in absurd (omega arith)
decode-sound p (o ∷ os) room h vs n e = close_read-sound p (o ∷ os) room h vs n (read_items p (unpack (o ∷ os)) room 0) refl e

-- exactly the messages of the lists that are allowed and fit are accepted, with the list and its bits
pub exact : (p : Items) (s : List ℕ) (room : ℕ) → ((i : ℕ) → get_or s i 0 < 256) → (vs : List ℤ) (n : ℕ)
    → (decode p s room ≡ accept vs n) ↔ Accepted p s room vs n
exact p s room h vs n = (
  decode-sound p s room h vs n,
  λ a. rw (← a.octets, a.taken) (decode-complete p vs room a.allowed a.fits),
)

-- one list for each message, and one message for each list
pub one_list : (p : Items) (vs ws : List ℤ) → Allows p vs → Allows p ws → encoding p vs ≡ encoding p ws → vs ≡ ws
one_list p vs ws hv hw e =
    let room = length vs + length ws in
    let a = decode-complete p vs room hv (omega arith) in
    let b = decode-complete p ws room hw (omega arith) in
    let x = sym a ∙ ap (λ s. decode p s room) e ∙ b in
    cc

pub one_message : (p : Items) (s t : List ℕ) (room room' : ℕ) → ((i : ℕ) → get_or s i 0 < 256) → ((i : ℕ) → get_or t i 0 < 256) → (vs : List ℤ) (m n : ℕ)
    → decode p s room ≡ accept vs m → decode p t room' ≡ accept vs n → s ≡ t
one_message p s t room room' hs ht vs m n a b = sym (decode-sound p s room hs vs m a).octets ∙ (decode-sound p t room' ht vs n b).octets

-- ── any octets ──

-- no more values come back than there is room for
pub message_fits : (p : Items) (s : List ℕ) (room : ℕ) → length (read_values (read_message p s room)) ≤ room
message_fits p s room = go (leb (length s) 65535) (decode p s room) refl
  where
    go : (b : Bool) (x : ReadOutcome) → decode p s room ≡ x → length (read_values (cond b x (refuse (refusal_at 13 0)))) ≤ room
    go false x q = omega arith
    go true (refuse refusal) q = omega arith
    go true (accept vs n) q = decode_fits p s room vs n q

-- no octets
pub message-empty : (p : Items) (s : List ℕ) (room : ℕ) → length s ≡ 0 → read_message p s room ≡ refuse (refusal_at 2 0)
message-empty p [] room h = refl
message-empty p (o ∷ os) room h = absurd (omega arith)
