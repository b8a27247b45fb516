-- Laws of what octets begin with: a whole frame has its header and lies within them, and what follows changes neither it nor a bad one.
-- So the bench program is steady.
use Prim.Native.Nat.{ℕ, ◌≤◌, ◌<◌}
use mathlib.Core.Path.{◌≡◌, refl, ◌∙◌}
use mathlib.Core.Bool.{Bool, true, false, cond}
use mathlib.Core.List.{List, ◌++◌}
use native.Mathlib.Omega.{arith}
use borrow.Author.Tests.{lt-ltb, le-ltb, ltb-true, ltb-false}
use lib.Dec.{ltb}
use lib.ListN.{length, length-append, get_or-append}
use Rattle.octets.specs.Numbers.{u16}
use Rattle.machine.specs.declared.Front.TheVariants.{Whole, Part, Wrong}
use Rattle.machine.specs.Machine.{Steady, Laws}
use Rattle.machine.proofs.Streams as streams
use Rattle.frames.specs.Frames.{first_frame, bench}

-- the tests of a whole frame
whole_is : (s : List ℕ) (size : ℕ) → first_frame s ≡ Whole size → (4 ≤ size) × (size ≤ length s) × (u16 s 0 ≡ size)
unfolding first_frame
whole_is s size e = go (ltb (length s) 4) (ltb (u16 s 0) 4) refl (ltb (length s) (u16 s 0)) refl e
  where
    go : (a b : Bool) → ltb (u16 s 0) 4 ≡ b → (d : Bool) → ltb (length s) (u16 s 0) ≡ d
        → cond a Part (cond b Wrong (cond d Part (Whole (u16 s 0)))) ≡ Whole size → (4 ≤ size) × (size ≤ length s) × (u16 s 0 ≡ size)
    go true b p d q e = let z : ◌≡◌ {A = ℕ} 0 1 = cc in absurd (omega arith)
    go false true p d q e = let z : ◌≡◌ {A = ℕ} 0 1 = cc in absurd (omega arith)
    go false false p true q e = let z : ◌≡◌ {A = ℕ} 0 1 = cc in absurd (omega arith)
    go false false p false q e =
        let same : u16 s 0 ≡ size = cc in
        (omega (arith, ltb-false (u16 s 0) 4 p), omega (arith, ltb-false (length s) (u16 s 0) q), same)

-- a whole frame has its header and lies within the octets
pub whole_within_lem : (s : List ℕ) (size : ℕ) → first_frame s ≡ Whole size → (4 ≤ size) × (size ≤ length s)
whole_within_lem s size e =
    let k = whole_is s size e in
    (k.0, k.1)

-- the tests of a bad one
bad_is : (s : List ℕ) → first_frame s ≡ Wrong → (4 ≤ length s) × (u16 s 0 < 4)
unfolding first_frame
bad_is s e = go (ltb (length s) 4) refl (ltb (u16 s 0) 4) refl (ltb (length s) (u16 s 0)) e
  where
    go : (a : Bool) → ltb (length s) 4 ≡ a → (b : Bool) → ltb (u16 s 0) 4 ≡ b → (d : Bool)
        → cond a Part (cond b Wrong (cond d Part (Whole (u16 s 0)))) ≡ Wrong → (4 ≤ length s) × (u16 s 0 < 4)
    go true p b q d e = let z : ◌≡◌ {A = ℕ} 0 1 = cc in absurd (omega arith)
    go false p true q d e = (ltb-false (length s) 4 p, ltb-true (u16 s 0) 4 q)
    go false p false q true e = let z : ◌≡◌ {A = ℕ} 0 1 = cc in absurd (omega arith)
    go false p false q false e = let z : ◌≡◌ {A = ℕ} 0 1 = cc in absurd (omega arith)

-- ---- what comes behind

length-stays : (s t : List ℕ) → 4 ≤ length s → u16 (s ++ t) 0 ≡ u16 s 0
unfolding u16
length-stays s t h = rw (get_or-append s t 0 0 (omega arith), get_or-append s t 0 1 (omega arith))

whole_stays : (s t : List ℕ) (size : ℕ) → first_frame s ≡ Whole size → first_frame (s ++ t) ≡ Whole size
unfolding first_frame
whole_stays s t size e =
    let is = whole_is s size e in
    let many = length-append s t in
    let length_is : u16 (s ++ t) 0 ≡ size = length-stays s t (omega (arith, is.0, is.1)) ∙ is.2 in
    rw (le-ltb (length (s ++ t)) 4 (omega (arith, is.0, is.1)), length_is, le-ltb size 4 is.0, le-ltb (length (s ++ t)) size (omega (arith, is.1)))

bad-stays : (s t : List ℕ) → first_frame s ≡ Wrong → first_frame (s ++ t) ≡ Wrong
unfolding first_frame
bad-stays s t e =
    let is = bad_is s e in
    rw (le-ltb (length (s ++ t)) 4 (omega (arith, is.0, length-append s t)), length-stays s t is.0, lt-ltb (u16 s 0) 4 is.1)

pub bench-steady : Steady bench
bench-steady =
    record {
      some = λ a s size e. (omega (arith, (whole_within_lem s size e).0), (whole_within_lem s size e).1);
      stays = λ a s rest size e. whole_stays s rest size e;
      wrong = λ a s rest e. bad-stays s rest e;
    }

pub bench_laws : Laws bench
bench_laws = streams.laws bench bench-steady
