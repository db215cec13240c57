use Rattle.std.proofs.Common.{◌≡◌, ◌∙◌, ℕ, ◌*◌, ◌/◌, get_or, ap, arith}
use Rattle.tce_space.specs.Box.{product}
use Rattle.tce_space.specs.Tiling.{Tiling, IsTiling}
use Rattle.tce_sym.specs.declared.symmetry.Symmetry.{Symmetry}
use Rattle.tce_sym.specs.Storage.{AreRight, at_first, pairs, stored_count}
use Rattle.tce_sym.proofs.StoredPlaces.{few}
use Rattle.tce_sym.proofs.Sizes.{are_small}
use Rattle.tce_sym.proofs.symmetry.stored_count.Goals as goal

count_is : (shape : Tiling) (s : Symmetry) (all extent some : ℕ) → IsTiling shape → AreRight shape.extents s → all ≡ product shape.extents → extent ≡ at_first s shape.extents → some ≡ pairs s.negated extent
    → all / (extent * extent) * some ≡ stored_count shape.extents s
count_is shape s all extent some t r a e q =
    let m : ℕ = at_first s shape.extents in
    ap (λ n. n / (extent * extent) * some) a ∙ ap (λ n. product shape.extents / (extent * extent) * n) q
    ∙ ap (λ n. product shape.extents / (n * n) * pairs s.negated n) e
    ∙ ap (λ n. n * pairs s.negated m) (are_small shape s t r).quotient

counted : (c : goal.After-pairs) → c.elements.result / (get_or c.extents.result.now c.args.s.now.first 0 * get_or c.extents.result.now c.args.s.now.first 0) * c.pairs.result ≡ stored_count c.args.shape.now.extents c.args.s.now
counted c =
    count_is c.args.shape.now c.args.s.now c.elements.result _ c.pairs.result c.extents.ensures.limits c.requires c.elements.ensures.elements
    (ap (at_first c.args.s.now) c.extents.ensures.items) c.pairs.ensures

pub overflow_mul-result-2 : goal.overflow_mul-result-2
overflow_mul-result-2 c = omega (arith, counted c, (are_small c.args.shape.now c.args.s.now c.extents.ensures.limits c.requires).count)

pub returns-clause-count : goal.returns-clause-count
returns-clause-count c = counted c

pub returns-clause-few : goal.returns-clause-few
returns-clause-few c = omega (arith, counted c, few c.args.shape.now.extents c.args.s.now c.requires)

pub returns-clause-small : goal.returns-clause-small
returns-clause-small c = omega (arith, counted c, (are_small c.args.shape.now c.args.s.now c.extents.ensures.limits c.requires).count)
