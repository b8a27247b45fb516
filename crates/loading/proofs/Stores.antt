-- What storing a table leaves in a state, piece by piece: the laws behind `loading::store` (document 02, ticket 3). The offsets are
-- variables here, since a list that is cut at a large number would be computed.
-- Assumes nothing.
use Prim.Native.Nat.{ℕ, ◌+◌, ◌-◌, ◌≤◌}
use mathlib.Core.Path.{◌≡◌, refl, sym, ap, ◌∙◌}
use mathlib.Core.List.{List, [], ◌++◌, append-nil, append_assoc}
use native.Mathlib.Omega.{arith}
use lib.ListN.{length, take, drop, replicate, length-append, length-drop, take-append-drop}
use lib.Seq.{take_at, drop_at, length-take-le, paste}
use Rattle.std.proofs.lemmas.List.{drop_all}
use Rattle.std.proofs.lemmas.List.Edits.{paste_all}
use borrow.Rule.Slice.PartMut.{put_mid}
use Rattle.items.specs.Slices.{filled}
use Rattle.items.proofs.Filled.{filled_up}
use Rattle.loading.specs.State.{numbers_of, state_with}

-- a list that is copied over all of another
pub pasted_whole : (l t : List ℕ) → length l ≡ length t → paste l 0 t (length t) ≡ t
pasted_whole l t e = rw (paste_all l 0 t (length t) refl, drop_all (0 + length t) l (omega arith), append-nil t) refl

-- a list put in place of a part
over : (p part q new : List ℕ) (at n : ℕ) → length p ≡ at → length part ≡ n → put_mid at n (p ++ (part ++ q)) new ≡ p ++ (new ++ q)
over p part q new at n e k = rw (take_at p (part ++ q) at e, drop_at p (part ++ q) at e, drop_at part q n k)

-- and in place of the first n that stand behind p
over_first : (p r new : List ℕ) (at n : ℕ) → length p ≡ at → n ≤ length r → put_mid at n (p ++ r) new ≡ p ++ (new ++ drop n r)
over_first p r new at n e k =
    ap (λ (x : List ℕ). put_mid at n (p ++ x) new) (sym (take-append-drop n r)) ∙ over p (take n r) (drop n r) new at n e (length-take-le n r k)

-- a table in front, zeros behind it up to one offset, the depths from there to another, and the numbers from there on
pieces : (st t d last : List ℕ) (from then : ℕ) → length t ≤ from → from + length d ≡ then → length st ≡ then + length last
    → (zeroed stored : List ℕ)
    → zeroed ≡ put_mid (length t) (from - length t) (t ++ drop (length t) st) (replicate (from - length t) 0)
    → stored ≡ put_mid from (length d) zeroed d
    → put_mid then (length stored - then) stored last ≡ filled 0 from t ++ (d ++ last)
pieces st t d last from then most e whole zeroed stored zeroed_is stored_is =
    let front = filled 0 from t in
    let sized : length front ≡ from = filled_up.whole 0 from t most in
    let k = from - length t in
    let r = drop k (drop (length t) st) in
    let rest : length r ≡ length d + length last = omega (arith, length-drop k (drop (length t) st), length-drop (length t) st) in
    let a : zeroed ≡ front ++ r =
    zeroed_is
    ∙ over_first t (drop (length t) st) (replicate k 0) (length t) k refl (omega (arith, length-drop (length t) st))
    ∙ sym (append_assoc t (replicate k 0) r) in
    let b : stored ≡ front ++ (d ++ drop (length d) r) =
    stored_is ∙ ap (λ (x : List ℕ). put_mid from (length d) x d) a ∙ over_first front r d from (length d) sized (omega arith) in
    let q = drop (length d) r in
    let left : length stored - then ≡ length q =
    omega (arith, ap length b, length-append front (d ++ q), length-append d q, sized) in
    let both : length (front ++ d) ≡ then = omega (arith, length-append front d, sized) in
    ap (λ (x : List ℕ). put_mid then (length stored - then) x last)
    (b ∙ sym (append_assoc front d q) ∙ ap (λ (x : List ℕ). (front ++ d) ++ x) (sym (append-nil q)))
    ∙ over (front ++ d) q [] last then (length stored - then) both (sym left)
    ∙ ap (λ (x : List ℕ). (front ++ d) ++ x) (append-nil last)
    ∙ append_assoc front d last

module _ (st t d : List ℕ) (rows root : ℕ) (whole : length st ≡ 6160) (most : length t ≤ 4096) (sized : length d ≡ 2048) where
  -- the state after the zeros, and after the depths
  abbrev pub zeroed : List ℕ → List ℕ → List ℕ
  zeroed copied zeros = put_mid (length t) (4096 - length t) (copied ++ drop (length t) st) zeros

  abbrev pub stored : List ℕ → List ℕ → List ℕ → List ℕ
  stored copied zeros depths = put_mid 4096 2048 (zeroed copied zeros) depths

  pub stores : (copied zeros depths last : List ℕ)
      → copied ≡ t
      → zeros ≡ replicate (length (take (4096 - length t) (drop (length t) (copied ++ drop (length t) st)))) 0
      → depths ≡ d
      → last ≡ numbers_of (length t) rows root
      → put_mid 6144 (length (stored copied zeros depths) - 6144) (stored copied zeros depths) last ≡ state_with t d rows root
  unfolding state_with
  stores copied zeros depths last copied_is zeros_are depths_are last_is =
      let n : length last ≡ 16 = ap length last_is in
      let filled_part : length (take (4096 - length t) (drop (length t) (copied ++ drop (length t) st))) ≡ 4096 - length t =
      rw (copied_is, drop_at t (drop (length t) st) (length t) refl) (length-take-le (4096 - length t) (drop (length t) st) (omega (arith, length-drop (length t) st))) in
      let all : zeros ≡ replicate (4096 - length t) 0 = zeros_are ∙ ap (λ (n : ℕ). replicate n 0) filled_part in
      pieces st t d last 4096 6144 most (omega arith) (omega arith) (zeroed copied zeros) (stored copied zeros depths)
      (rw (copied_is, all)) (rw (depths_are, sized))
      ∙ ap (λ (l : List ℕ). filled 0 4096 t ++ (d ++ l)) last_is
