use Rattle.std.proofs.Common.{ℕ, List, ◌||◌, take, ◌∙◌, sym, ap}
use Rattle.std.proofs.lemmas.List.{take_all}
use Rattle.tce_space.specs.IndexSet.{has}
use Rattle.tce_fusion.specs.StateClasses.{in_class}
use Rattle.tce_nesting.proofs.Classes.{in_class-push}
use Rattle.tce_nesting.proofs.Joins.{take_item}
use Rattle.tce_nesting.proofs.nesting.Nesting.members.Goals as goal

pub loop-class-preserved : goal.loop-class-preserved
loop-class-preserved c =
    let items = c.classes-class-items.result.now in
    let here = take_item items c.loop-class.class-index c.class-item.result c.loop-class-test.true c.class-item.is in
    λ i. c.union-all.ensures.members i
    ∙ ap (λ x. x || has c.class-item.result i) (c.loop-class.invariant i)
    ∙ sym (ap (λ (cs : List ℕ). in_class cs i) here ∙ in_class-push (take c.loop-class.class-index items) c.class-item.result i)

pub returns : goal.returns
returns c =
    let items = c.classes-class-items.result.now in
    λ i. c.loop-class.invariant i
    ∙ ap (λ (cs : List ℕ). in_class cs i) (take_all c.loop-class.class-index items c.loop-class-test.false ∙ c.classes-class-items.ensures.value)
