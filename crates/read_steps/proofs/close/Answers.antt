-- `read_steps::close` meets its contract. By the size, and by the number that the bits after the root spell.
-- Assumes nothing.
use Prim.Native.Nat.{ℕ, ◌-◌, ◌*◌, ◌≤◌}
use mathlib.Core.Path.{◌≡◌, sym, ap, ◌∙◌}
use native.Mathlib.Omega.{arith}
use mathlib.Core.List.{List}
use lib.ListN.{length, drop}
use Rattle.bits.specs.Bits.{number_of, unpack}
use Rattle.read_steps.proofs.Roots.{other_size, not-zero, all_zero_lem}
use Rattle.std.proofs.Common.{Err}
use Rattle.read_steps.proofs.close.Goals as goal

-- the bits after the root are the last
padding : (m : List ℕ) (place all n : ℕ) → place ≤ 8 * length m → all ≡ 8 * length m
    → n ≡ number_of (drop (8 * length m - (all - place)) (unpack m)) → n ≡ number_of (drop place (unpack m))
padding m place all n h e k = let from : 8 * length m - (all - place) ≡ place = omega arith in k ∙ ap (λ (p : ℕ). number_of (drop p (unpack m))) from

pub returns-then-message-size : goal.returns-then-message-size
returns-then-message-size c =
    let a = c.args in
    ap Err c.at_place.ensures ∙ other_size a.message.now a.end (λ e. c.if-message-size.true (e ∙ sym c.holding-size.ensures))

pub returns-then-last_bits-ne0 : goal.returns-then-last_bits-ne0
returns-then-last_bits-ne0 c =
    let a = c.args in
    ap Err c.at_place-then-last_bits-ne0.ensures
    ∙ not-zero a.message.now a.end _ (c.if-message-size.false ∙ c.holding-size.ensures) (padding _ _ _ _ c.requires.1 (omega arith) c.last_bits.ensures) c.if-last_bits-ne0.true

pub returns : goal.returns
returns c =
    let a = c.args in
    c.new.ensures
    ∙ all_zero_lem a.message.now a.end _ (c.if-message-size.false ∙ c.holding-size.ensures) (padding _ _ _ _ c.requires.1 (omega arith) c.last_bits.ensures) c.if-last_bits-ne0.false
