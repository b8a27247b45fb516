-- `values::clear` meets its contract. The part from the index on is filled, and nothing stands behind it.
use Rattle.std.proofs.Common.{rules, refl, sym, ◌∙◌, ◌≡◌, ℕ, List, ◌+◌, ◌-◌, ◌≤◌, ◌<◌, length, take, drop, ◌++◌, replicate, arith, append-nil, zero-add}
use Rattle.std.proofs.lemmas.List.{drop_all}
use Rattle.std.proofs.lemmas.List.Edits.{fill_from_more, paste_all}
use Rattle.std.proofs.lemmas.Slice.{put_mid-paste}
use Rattle.std.proofs.Math.ListN.{length-replicate, set}
use Rattle.std.proofs.Math.Seq.{paste}
use Rattle.values.proofs.clear.Goals as goal

-- a list with z throughout, from a place on up to its end
pasted : {A : Type 0} (z : A) (s : List A) (from k : ℕ) → length s ≤ from + k → paste s from (replicate k z) k ≡ take from s ++ replicate k z
pasted z s from k h =
    rw (paste_all s from (replicate k z) k (sym (length-replicate k z)), drop_all (from + k) s h, append-nil (replicate k z)) refl

one_more : {A : Type 0} (z : A) (d : List A) (i : ℕ) → i < length d → set (paste d 0 (replicate i z) i) i z ≡ paste d 0 (replicate (i + 1) z) (i + 1)
one_more z d i h = simp zero-add (simp zero-add at (fill_from_more d 0 i z (omega arith)))

pub loop-item-preserved : goal.loop-item-preserved
loop-item-preserved g c = rw c.loop-item.invariant (one_more c.args.zero _ c.loop-item.item-index (omega arith))

pub returns : goal.returns
returns g c =
    let a = c.args in
    let k = length a.slice.now - a.from in
    let n : length (take k (drop a.from a.slice.now)) ≡ k = search rules in
    let all : c.loop-item.item-index ≡ k = omega (arith, n) in
    let filled = rw all at c.loop-item.invariant ∙ pasted a.zero (take k (drop a.from a.slice.now)) 0 k (omega (arith, n)) in
    put_mid-paste a.from k a.slice.now c.loop-item.item-items (replicate k a.zero) k filled refl (sym (length-replicate k a.zero)) ∙ pasted a.zero a.slice.now a.from k (omega arith)
