-- Items and nothing more; items in three parts; a run of the same items: none left, and one more.
-- Assumes nothing.
use Prim.Native.Nat.{ℕ, suc}
use mathlib.Core.Path.{◌≡◌, refl, ap, fun_ext}
use Rattle.item.specs.Code.{Code}
use Rattle.items.specs.Items.{Items, stop, ask, ◌then◌, one, times}

pub then-stop : (p : Items) → p then stop ≡ p
then-stop stop = refl
then-stop (ask c k) = ap (ask c) (fun_ext (λ v. then-stop (k v)))

pub then-assoc : (p q r : Items) → (p then q) then r ≡ p then (q then r)
then-assoc stop q r = refl
then-assoc (ask c k) q r = ap (ask c) (fun_ext (λ v. then-assoc (k v) q r))

pub times_none : (n : ℕ) (p : Items) → n ≡ 0 → times n p ≡ stop
unfolding times
times_none n p e = ap (λ m. times m p) e

pub times_more : (left rest : ℕ) (p : Items) → left ≡ suc rest → times left p ≡ p then times rest p
unfolding times
times_more left rest p e = ap (λ m. times m p) e

-- a run of one item begins with that item
pub run_first : (c : Code) (left rest : ℕ) → left ≡ suc rest → times left (one c) ≡ ask c (λ v. times rest (one c))
unfolding times one
run_first c left rest e = ap (λ n. times n (one c)) e
