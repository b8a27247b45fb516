-- The branches of the openings: which of them are there, what those ask for, and that fewer sections follow them.
-- Assumes nothing.
use Prim.Native.Nat.{ℕ, zero, suc, ◌≤◌, ◌<◌}
use mathlib.Core.Bool.{Bool, true, false}
use mathlib.Core.Path.{◌≡◌, refl}
use mathlib.Core.List.{List}
use native.Mathlib.Omega.{arith}
use lib.Dec.{eqb}
use lib.IntN.{pos}
use lib.ListN.{get_or, get_or-replicate}
use Rattle.bits.specs.Bits.{width}
use Rattle.item.specs.Code.{number, index, index_width, natural}
use Rattle.items.specs.Items.{Items, ask}
use Rattle.lm_items.specs.Asked.{following, rank, asked, on, flagged, header, network_branches, original_branches, transport_branches, network_by, original_by, transport_by, network, original, transport, content}
use Rattle.lm_items.specs.declared.Section.TheVariants.{Transport, Content}
use Rattle.lm_items.specs.declared.Kind.TheVariants.{UserData}
use Rattle.lm_opening.specs.Opens.{network_kind, transport_kind, network_section}

-- the widths of the numbers behind an index
pub flag-width : width 1 ≡ 1
unfolding width
flag-width = refl

pub version-width : width 7 ≡ 3
unfolding width
version-width = refl

-- ── the N-Headers: the first, and the original one, which is inner ──

unfoldable pub branches_of : Bool → List Bool
branches_of false = network_branches
branches_of true = original_branches

unfoldable pub branch_of : Bool → ℕ → Items
branch_of false = network_by
branch_of true = original_by

pub network-asks : (inner : Bool) → asked (network_section inner) ≡ ask (index (branches_of inner)) (λ v. branch_of inner (natural v))
unfolding asked network original branches_of branch_of
network-asks false = refl
network-asks true = refl

pub network-width : (inner : Bool) → index_width (branches_of inner) ≡ 4
unfolding width branches_of
network-width false = refl
network-width true = refl

pub network-reserved : (inner : Bool) (n : ℕ) → 2 < n → n < 16 → get_or (branches_of inner) n false ≡ false
unfolding branches_of
network-reserved inner zero above below = absurd (omega arith)
network-reserved inner (suc zero) above below = absurd (omega arith)
network-reserved inner (suc (suc zero)) above below = absurd (omega arith)
network-reserved false (suc (suc (suc n))) above below = get_or-replicate 13 n false false (omega arith)
network-reserved true (suc (suc (suc n))) above below = get_or-replicate 13 n false false (omega arith)

pub original-reserved : (inner : Bool) (n : ℕ) → inner ≡ true → n ≡ 1 → get_or (branches_of inner) n false ≡ false
unfolding branches_of
original-reserved inner n e one = rw (e, one)

-- a subtype that is there asks for a flag, a version, then the section's fields
pub record NetworkBranch (inner : Bool) (n : ℕ) : Type 0 where
  pub there : get_or (branches_of inner) n false ≡ true
  pub asks : branch_of inner n ≡ ask (number (pos 0) 1) (λ v. ask (number (pos 0) 7) (λ w. on (network_kind n) (eqb (natural v) 1)))
  pub fewer : rank (following (network_kind n)) < rank (network_section inner)

pub network-branch : (inner : Bool) (n : ℕ) → n ≤ 2 → (inner ≡ true → n ≡ 1 → ⊥) → NetworkBranch inner n
unfolding branches_of branch_of network_by original_by header flagged on asked
network-branch false zero few other = record { there = refl; asks = refl; fewer = omega arith }
network-branch false (suc zero) few other = record { there = refl; asks = refl; fewer = omega arith }
network-branch false (suc (suc zero)) few other = record { there = refl; asks = refl; fewer = omega arith }
network-branch true zero few other = record { there = refl; asks = refl; fewer = omega arith }
network-branch true (suc zero) few other = absurd (other refl refl)
network-branch true (suc (suc zero)) few other = record { there = refl; asks = refl; fewer = omega arith }
network-branch inner (suc (suc (suc n))) few other = absurd (omega arith)

-- ── the T-Header ──

pub transport-asks : asked Transport ≡ ask (index transport_branches) (λ v. transport_by (natural v))
unfolding asked transport
transport-asks = refl

pub transport-width : index_width transport_branches ≡ 7
unfolding width
transport-width = refl

pub transport-reserved : (n : ℕ) → 1 < n → n < 128 → get_or transport_branches n false ≡ false
transport-reserved zero above below = absurd (omega arith)
transport-reserved (suc zero) above below = absurd (omega arith)
transport-reserved (suc (suc n)) above below = get_or-replicate 126 n false false (omega arith)

-- a feature selector that is there asks for a flag, then the section's fields
pub record TransportBranch (n : ℕ) : Type 0 where
  pub there : get_or transport_branches n false ≡ true
  pub asks : transport_by n ≡ ask (number (pos 0) 1) (λ v. on (transport_kind n) (eqb (natural v) 1))
  pub fewer : rank (following (transport_kind n)) < rank Transport

pub transport-branch : (n : ℕ) → n ≤ 1 → TransportBranch n
unfolding transport_by flagged on asked
transport-branch zero few = record { there = refl; asks = refl; fewer = omega arith }
transport-branch (suc zero) few = record { there = refl; asks = refl; fewer = omega arith }
transport-branch (suc (suc n)) few = absurd (omega arith)

-- ── the user data ──

-- nothing stands before its fields
pub content-asks : asked Content ≡ on UserData false
unfolding asked on content
content-asks = refl
