use Rattle.std.proofs.Common.{◌≡◌, ◌∙◌, ℕ, ◌*◌, ◌/◌, get_or, refl, sym, ap, arith}
use Rattle.tce_space.specs.Box.{product}
use Rattle.tce_space.specs.Tiling.{Tiling, IsTiling}
use Rattle.tce_sym.specs.declared.symmetry.Symmetry.{Symmetry}
use Rattle.tce_sym.specs.Storage.{AreRight, at_first, at_others, pairs, stored_count}
use Rattle.tce_sym.proofs.Sizes.{are_small}
use Rattle.tce_sym.proofs.cells.triangles_of.Goals as goal

quotient_is : (shape : Tiling) (s : Symmetry) (all extent : ℕ) → IsTiling shape → AreRight shape.extents s → all ≡ product shape.extents → extent ≡ at_first s shape.extents
    → all / (extent * extent) ≡ product (at_others s shape.extents)
quotient_is shape s all extent t r a e =
    ap (λ n. n / (extent * extent)) a ∙ ap (λ n. product shape.extents / (n * n)) e ∙ (are_small shape s t r).quotient

split : (shape : Tiling) (s : Symmetry) (all extent many count : ℕ) → IsTiling shape → AreRight shape.extents s → all ≡ product shape.extents → extent ≡ at_first s shape.extents
    → many ≡ pairs s.negated extent → count ≡ stored_count shape.extents s → count ≡ all / (extent * extent) * many
split shape s all extent many count t r a e m c =
    c ∙ sym (ap (λ n. n * many) (quotient_is shape s all extent t r a e) ∙ ap (λ n. product (at_others s shape.extents) * n) (m ∙ ap (pairs s.negated) e))

pub grid_within-slots-requires-clause-count : goal.grid_within-slots-requires-clause-count
grid_within-slots-requires-clause-count c =
    c.slots_of-slots.ensures.count
    ∙ split c.args.shape.now c.args.s.now c.elements.result _ c.pairs-pairs.result c.stored_count-count.result c.extents.ensures.limits c.requires.right c.elements.ensures.elements
    (ap (at_first c.args.s.now) c.extents.ensures.items) c.pairs-pairs.ensures c.stored_count-count.ensures.count

pub grid_within-slots-requires-clause-few : goal.grid_within-slots-requires-clause-few
grid_within-slots-requires-clause-few c =
    let small = are_small c.args.shape.now c.args.s.now c.extents.ensures.limits c.requires.right in
    omega (arith, small.others, quotient_is c.args.shape.now c.args.s.now c.elements.result _ c.extents.ensures.limits c.requires.right c.elements.ensures.elements (ap (at_first c.args.s.now) c.extents.ensures.items))

others : (c : goal.After-grid_within-slots) → c.elements.result / (get_or c.extents.result.now c.args.s.now.first 0 * get_or c.extents.result.now c.args.s.now.first 0) ≡ product (at_others c.args.s.now c.args.shape.now.extents)
others c = quotient_is c.args.shape.now c.args.s.now c.elements.result _ c.extents.ensures.limits c.requires.right c.elements.ensures.elements (ap (at_first c.args.s.now) c.extents.ensures.items)

pub returns-clause-triangles : goal.returns-clause-triangles
returns-clause-triangles c =
    let small = are_small c.args.shape.now c.args.s.now c.extents.ensures.limits c.requires.right in
    let extent : get_or c.extents.result.now c.args.s.now.first 0 ≡ at_first c.args.s.now c.args.shape.now.extents = ap (at_first c.args.s.now) c.extents.ensures.items in
    record {
      extent = omega (arith, extent, small.below);
      pairs = c.pairs-pairs.ensures;
      count = split c.args.shape.now c.args.s.now c.elements.result _ c.pairs-pairs.result c.stored_count-count.result c.extents.ensures.limits c.requires.right c.elements.ensures.elements
          (ap (at_first c.args.s.now) c.extents.ensures.items) c.pairs-pairs.ensures c.stored_count-count.ensures.count;
      small = c.stored_count-count.ensures.small;
      few = omega (arith, others c, small.others);
      grid = c.grid_within-slots.ensures.count ∙ c.slots_of-slots.ensures.count;
    }

pub returns-clause-same : goal.returns-clause-same
returns-clause-same c = record { negated = refl; extent = ap (at_first c.args.s.now) c.extents.ensures.items; others = others c }
