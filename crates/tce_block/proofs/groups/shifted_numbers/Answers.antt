use Rattle.std.proofs.Common.{◌≡◌, ◌∙◌, ℕ, zero, suc, ◌+◌, ◌<◌, List, [], ◌∷◌, ◌++◌, length, take, get_or, refl, sym, ap, arith}
use Rattle.std.proofs.lemmas.List.{take_all, take_more}
use Rattle.tce_block.specs.Grouped.{shifted}
use Rattle.tce_block.proofs.Grouped.{length-shifted}
use Rattle.tce_block.proofs.groups.shifted_numbers.Goals as goal

get_or-shifted : (from xs : List ℕ) (d : ℕ) → length from ≡ length xs → d < length xs → get_or (shifted from xs) d 0 ≡ get_or from d 0 + get_or xs d 0
get_or-shifted [] [] d e l = absurd (let h : ⊥ = omega (arith, l) in h)
get_or-shifted [] (x ∷ xs) d e l = absurd (let h : ⊥ = omega (arith, e) in h)
get_or-shifted (f ∷ from) [] d e l = absurd (let h : ⊥ = omega (arith, l) in h)
get_or-shifted (f ∷ from) (x ∷ xs) zero e l = refl
get_or-shifted (f ∷ from) (x ∷ xs) (suc d) e l = get_or-shifted from xs d (let r : length from ≡ length xs = omega (arith, e) in r) (let r : d < length xs = omega (arith, l) in r)

pub loop-d-preserved : goal.loop-d-preserved
loop-d-preserved c = record {
  numbers =
      c.push.ensures.items
      ∙ ap (λ ys. ys ++ (get_or c.args.from.now c.loop-d.d 0 + get_or c.args.numbers.now c.loop-d.d 0) ∷ []) c.loop-d.invariant.numbers
      ∙ ap (λ y. take c.loop-d.d (shifted c.args.from.now c.args.numbers.now) ++ y ∷ []) (sym (get_or-shifted c.args.from.now c.args.numbers.now c.loop-d.d c.requires.long (omega arith)))
      ∙ sym (take_more (shifted c.args.from.now c.args.numbers.now) c.loop-d.d 0 (omega (arith, length-shifted c.args.from.now c.args.numbers.now c.requires.long)));
  long = omega arith;
}

pub returns : goal.returns
returns c = c.loop-d.invariant.numbers ∙ take_all c.loop-d.d (shifted c.args.from.now c.args.numbers.now) (omega (arith, length-shifted c.args.from.now c.args.numbers.now c.requires.long))
