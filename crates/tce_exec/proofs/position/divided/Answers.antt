use Rattle.std.proofs.Common.{◌≡◌, ℕ, ◌+◌, ◌-◌, ◌/◌, ◌%◌, ◌<◌, ◌≤◌, sym, ap, ◌∙◌, refl, arith}
use Rattle.std.proofs.Math.Nat.{add-mod_right, add-div_right, div-eq_of_lt, mod-eq_of_lt}
use Rattle.tce_exec.proofs.position.divided.Goals as goal

-- one edge further
farther : (number edge before : ℕ) → before ≤ number → number - before ≡ edge → before + edge ≡ number
farther number edge before low apart = omega (arith, low, apart)

next_tile : (number edge before tile : ℕ) → 0 < edge → tile ≡ before / edge → before ≤ number → number - before ≡ edge → tile + 1 ≡ number / edge
next_tile number edge before tile some is low apart = ap (λ k. k + 1) is ∙ sym (add-div_right before some) ∙ ap (λ k. k / edge) (farther number edge before low apart)

next_rest : (number edge before rest : ℕ) → rest ≡ before % edge → before ≤ number → number - before ≡ edge → rest ≡ number % edge
next_rest number edge before rest is low apart = is ∙ sym (add-mod_right before edge) ∙ ap (λ k. k % edge) (farther number edge before low apart)

pub returns-then-number-before-clause-tile : goal.returns-then-number-before-clause-tile
returns-then-number-before-clause-tile c = c.requires.tile ∙ ap (λ k. k / c.args.edge) (sym c.if-number-before.true)

pub returns-then-number-before-clause-rest : goal.returns-then-number-before-clause-rest
returns-then-number-before-clause-rest c = c.requires.rest ∙ ap (λ k. k % c.args.edge) (sym c.if-number-before.true)

pub returns-then-number-before-2-clause-tile : goal.returns-then-number-before-2-clause-tile
returns-then-number-before-2-clause-tile c = next_tile c.args.number c.args.edge c.args.before c.args.tile c.requires.some c.requires.tile c.if-before-number.true c.if-number-before-2.true

pub returns-then-number-before-2-clause-rest : goal.returns-then-number-before-2-clause-rest
returns-then-number-before-2-clause-rest c = next_rest c.args.number c.args.edge c.args.before c.args.rest c.requires.rest c.if-before-number.true c.if-number-before-2.true

pub returns-then-number-edge-clause-tile : goal.returns-then-number-edge-clause-tile
returns-then-number-edge-clause-tile c = sym (div-eq_of_lt c.if-number-edge.true)

pub returns-then-number-edge-clause-rest : goal.returns-then-number-edge-clause-rest
returns-then-number-edge-clause-rest c = sym (mod-eq_of_lt c.if-number-edge.true)

pub returns-else-number-edge-clause-tile : goal.returns-else-number-edge-clause-tile
returns-else-number-edge-clause-tile c = refl

pub returns-else-number-edge-clause-rest : goal.returns-else-number-edge-clause-rest
returns-else-number-edge-clause-rest c = refl
