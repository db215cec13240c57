use Rattle.std.proofs.Common.{◌≡◌, ◌∙◌, ◌+◌, ◌-◌, ◌*◌, ◌<◌, ◌≤◌, ℕ, zero, suc, min, List, [], ◌∷◌, length, set, take, ap, ap₂, sym, add-one, arith, get_or}
use Rattle.std.proofs.Math.Nat.{le-min}
use Rattle.std.proofs.lemmas.List.{take_all}
use Rattle.tce_block.specs.Parts.{beginnings, lengths}
use Rattle.tce_block.proofs.Dimensions.{IsDimension, AreAsMany, dimension, as_many}
use Rattle.tce_block.proofs.blocks.put_block.Goals as goal

pub bounds-edges-d : goal.bounds-edges-d
bounds-edges-d c = omega (arith, (as_many c.args.extents.now c.args.edges.now c.args.numbers.now c.requires.numbers.within c.requires.numbers.inside).edges)

pub overflow_mul-first : goal.overflow_mul-first
overflow_mul-first c =
    let d = dimension c.args.extents.now c.args.edges.now c.args.numbers.now c.loop-d.d c.requires.numbers.within c.requires.numbers.inside (omega arith) in
    omega (arith, d.inside, d.extent_limit)

pub bounds-edges-d-in-loop-d : goal.bounds-edges-d-in-loop-d
bounds-edges-d-in-loop-d c = omega (arith, (as_many c.args.extents.now c.args.edges.now c.args.numbers.now c.requires.numbers.within c.requires.numbers.inside).edges)

pub overflow_add-first : goal.overflow_add-first
overflow_add-first c =
    let d = dimension c.args.extents.now c.args.edges.now c.args.numbers.now c.loop-d.d c.requires.numbers.within c.requires.numbers.inside (omega arith) in
    omega (arith, d.inside, d.extent_limit, d.edge_limit)

pub bounds-extents-d : goal.bounds-extents-d
bounds-extents-d c = omega (arith, (as_many c.args.extents.now c.args.edges.now c.args.numbers.now c.requires.numbers.within c.requires.numbers.inside).extents)

pub overflow_sub-len : goal.overflow_sub-len
overflow_sub-len c =
    let d = dimension c.args.extents.now c.args.edges.now c.args.numbers.now c.loop-d.d c.requires.numbers.within c.requires.numbers.inside (omega arith) in
    let low : get_or c.args.numbers.now c.loop-d.d 0 * get_or c.args.edges.now c.loop-d.d 0 ≤ min (get_or c.args.numbers.now c.loop-d.d 0 * get_or c.args.edges.now c.loop-d.d 0 + get_or c.args.edges.now c.loop-d.d 0) (get_or c.args.extents.now c.loop-d.d 0) = le-min (omega arith) (omega (arith, d.inside)) in
    omega (arith, c.min-end.ensures)

-- one element more is as in the other list
one_put : (xs ys : List ℕ) (d v : ℕ) → take d xs ≡ take d ys → d < length xs → d < length ys → get_or ys d 0 ≡ v → take (suc d) (set xs d v) ≡ take (suc d) ys
one_put [] ys d v e lx ly g = absurd (omega arith)
one_put (x ∷ xs) [] d v e lx ly g = absurd (omega arith)
one_put (x ∷ xs) (y ∷ ys) zero v e lx ly g = ap (λ z. z ∷ []) (sym g)
one_put (x ∷ xs) (y ∷ ys) (suc d) v e lx ly g =
    let heads : x ≡ y = cc in
    let tails : take d xs ≡ take d ys = cc in
    ap₂ (λ h t. h ∷ t) heads (one_put xs ys d v tails (omega arith) (omega arith) g)

put_more : (xs ys : List ℕ) (d v : ℕ) → take d xs ≡ take d ys → d < length xs → d < length ys → get_or ys d 0 ≡ v → take (d + 1) (set xs d v) ≡ take (d + 1) ys
put_more xs ys d v e lx ly g = ap (λ n. take n (set xs d v)) (add-one d) ∙ one_put xs ys d v e lx ly g ∙ ap (λ n. take n ys) (sym (add-one d))

pub loop-d-preserved : goal.loop-d-preserved
loop-d-preserved c =
    let m : AreAsMany c.args.extents.now c.args.edges.now c.args.numbers.now = as_many c.args.extents.now c.args.edges.now c.args.numbers.now c.requires.numbers.within c.requires.numbers.inside in
    let d : IsDimension c.args.extents.now c.args.edges.now c.args.numbers.now c.loop-d.d = dimension c.args.extents.now c.args.edges.now c.args.numbers.now c.loop-d.d c.requires.numbers.within c.requires.numbers.inside (omega arith) in
    let end = d.len ∙ ap (λ n. n - get_or c.args.numbers.now c.loop-d.d 0 * get_or c.args.edges.now c.loop-d.d 0) (sym c.min-end.ensures) in
    record {
      from = put_more c.loop-d.from (beginnings c.args.edges.now c.args.numbers.now) c.loop-d.d _ c.loop-d.invariant.from (omega arith) (omega (arith, m.beginnings_len)) d.beginning;
      len = put_more c.loop-d.len (lengths c.args.extents.now c.args.edges.now c.args.numbers.now) c.loop-d.d _ c.loop-d.invariant.len (omega arith) (omega (arith, m.lengths_len)) end;
    }

pub returns-clause-from : goal.returns-clause-from
returns-clause-from c =
    let m : AreAsMany c.args.extents.now c.args.edges.now c.args.numbers.now = as_many c.args.extents.now c.args.edges.now c.args.numbers.now c.requires.numbers.within c.requires.numbers.inside in
    sym (take_all c.loop-d.d c.loop-d.from (omega arith)) ∙ c.loop-d.invariant.from ∙ take_all c.loop-d.d (beginnings c.args.edges.now c.args.numbers.now) (omega (arith, m.beginnings_len))

pub returns-clause-len : goal.returns-clause-len
returns-clause-len c =
    let m : AreAsMany c.args.extents.now c.args.edges.now c.args.numbers.now = as_many c.args.extents.now c.args.edges.now c.args.numbers.now c.requires.numbers.within c.requires.numbers.inside in
    sym (take_all c.loop-d.d c.loop-d.len (omega arith)) ∙ c.loop-d.invariant.len ∙ take_all c.loop-d.d (lengths c.args.extents.now c.args.edges.now c.args.numbers.now) (omega (arith, m.lengths_len))
