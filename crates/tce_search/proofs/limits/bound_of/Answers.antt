use Rattle.std.proofs.Common.{◌≡◌, ℕ, ◌+◌, [], ◌∷◌, ◌++◌, List, length, ◌∙◌, ap, sym, subst, arith, drop}
use Rattle.tce_space.specs.IndexSet.{IsWithin}
use Rattle.tce_fusion.specs.StateClasses.{IsNesting, in_class}
use Rattle.tce_fusion.specs.Relation.{above, IsCoarser}
use Rattle.tce_fusion.specs.Row.{Row}
use Rattle.tce_nesting.proofs.Classes.{drop-item}
use Rattle.tce_search.proofs.Bounding.{IsPrefix, prefix_none, prefix_further, prefix_inhabited, prefix_coarser}
use Rattle.tce_search.proofs.limits.bound_of.Goals as goal

pub loop-class-init : goal.loop-class-init
loop-class-init c = prefix_none c.classes-class-items.result.now c.empty-reached.result c.empty-reached.ensures.members

pub loop-class-preserved : goal.loop-class-preserved
loop-class-preserved c =
    let items = c.classes-class-items.result.now in
    let k = c.loop-class.class-index in
    let class = c.class-item.result in
    let here = drop-item items k class c.loop-class-test.true c.class-item.is in
    prefix_further items (drop (k + 1) items) class c.loop-class.reached c.union-reached.result c.union-reached.ensures.members
    (λ dims all. subst (IsWithin' dims) (sym c.class-item.is) (all k class c.loop-class-test.true))
    (subst (λ cs. IsPrefix items cs c.loop-class.reached) here c.loop-class.invariant)
  where
    IsWithin' : ℕ → ℕ → Type 0
    IsWithin' dims set = IsWithin set dims

pub with_class-requires-clause-inhabited : goal.with_class-requires-clause-inhabited
with_class-requires-clause-inhabited c =
    prefix_inhabited c.classes-class-items.result.now c.loop-class.class-index c.class-item.result c.loop-class.reached c.union-reached.result
    c.loop-class-test.true c.class-item.is (subst IsNesting (sym c.classes-class-items.ensures.value) c.classes-class-items.ensures.nesting) c.union-reached.ensures.members

pub with_class-requires-clause-room : goal.with_class-requires-clause-room
with_class-requires-clause-room c = omega (arith, ap length c.none.ensures)

pub with_class-requires-clause-apart : goal.with_class-requires-clause-apart
with_class-requires-clause-apart c i h = ap (λ (cs : List ℕ). in_class cs i) c.none.ensures

pub returns-then-cost-row-clause-stands : goal.returns-then-cost-row-clause-stands
returns-then-cost-row-clause-stands c outer =
    let items = c.classes-class-items.result.now in
    let k = c.loop-class.class-index in
    let class = c.class-item.result in
    let reached = c.union-reached.result in
    let here = drop-item items k class c.loop-class-test.true c.class-item.is in
    let further = prefix_further items (drop (k + 1) items) class c.loop-class.reached reached c.union-reached.ensures.members
    (λ dims all. subst (λ set. IsWithin set dims) (sym c.class-item.is) (all k class c.loop-class-test.true))
    (subst (λ cs. IsPrefix items cs c.loop-class.reached) here c.loop-class.invariant) in
    let one : c.with_class.result ≡ reached ∷ [] = c.with_class.ensures ∙ ap (λ (cs : List ℕ). cs ++ reached ∷ []) c.none.ensures in
    let classes = c.classes-class-items.ensures.value ∙ ap (λ (r : Row). r.classes) c.row.view_is in
    record {
      coarser = subst (λ cs. IsCoarser outer (above c.with_class.result) (above cs)) classes
          (subst (λ cs. IsCoarser outer (above cs) (above items)) (sym one) (prefix_coarser outer items (drop (k + 1) items) reached further));
      cheap = omega (arith, c.if-cost-row.true, ap (λ (r : Row). r.cost) c.row.view_is);
    }

pub returns-then-cost-row-clause-least : goal.returns-then-cost-row-clause-least
returns-then-cost-row-clause-least c = c.of-cost.ensures.low
