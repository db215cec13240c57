-- The generator goes on from numbers that are not 0.
use Rattle.std.proofs.Common.{◌≡◌, ◌≢◌, ◌∙◌, ℕ, zero, suc, ◌+◌, ◌*◌, ◌%◌, ◌<◌, ◌≤◌, sym, ap, subst, arith, add-one}
use Rattle.std.proofs.lemmas.Nat.{mul-mod_first}
use Rattle.std.proofs.Math.Nat.{add-mul-mod_self_left}
use Rattle.tce_tools.specs.Demo.{drawn}
use Rattle.tce_tools.proofs.Draws.{drawn_none, drawn_more}
use Rattle.tce_run.specs.DemoFiles.{IsSeed}

-- 1899818559 undoes the multiplier
back : (x : ℕ) → x < 2147483647 → (x * 48271 % 2147483647) * 1899818559 % 2147483647 ≡ x
back x small =
    mul-mod_first (x * 48271) 1899818559 2147483647
    ∙ ap (λ n. n % 2147483647) (parts x)
    ∙ add-mul-mod_self_left x 2147483647 (x * 42704)
    ∙ itself x small
  where
    parts : (x : ℕ) → x * 48271 * 1899818559 ≡ x + 2147483647 * (x * 42704)
    parts x = omega arith

    itself : (x : ℕ) → x < 2147483647 → x % 2147483647 ≡ x
    itself x h = omega arith

-- so no draw gives 0
some_drawn : (x : ℕ) → 1 ≤ x → x < 2147483647 → x * 48271 % 2147483647 ≢ 0
some_drawn x some small none =
    let lost : 0 ≡ x = ap (λ n. n * 1899818559 % 2147483647) (sym none) ∙ back x small in
    omega (arith, lost, some)

nonzero : (n : ℕ) → n ≢ 0 → 1 ≤ n
nonzero n h = omega arith

below : (n : ℕ) → n % 2147483647 ≤ 2147483646
below n = omega arith

one_more : (x : ℕ) → IsSeed x → IsSeed (drawn x 1)
unfolding drawn
one_more x h = (nonzero (x * 48271 % 2147483647) (some_drawn x h.0 (omega (arith, h.1))), below (x * 48271))

pub seed_goes_on : (x n : ℕ) → IsSeed x → IsSeed (drawn x n)
seed_goes_on x zero h = subst IsSeed (drawn_none x (omega (arith, h.1))) h
seed_goes_on x (suc n) h = subst IsSeed (drawn_more x n 1 ∙ ap (drawn x) (add-one n)) (one_more (drawn x n) (seed_goes_on x n h))
