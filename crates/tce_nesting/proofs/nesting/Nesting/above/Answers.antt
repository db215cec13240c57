use Rattle.std.proofs.Common.{◌∙◌, ◌+◌, refl, sym, ap, drop}
use Rattle.std.proofs.lemmas.List.{at_drop_all}
use Rattle.tce_fusion.specs.Relation.{above}
use Rattle.tce_nesting.proofs.Classes.{drop-item}
use Rattle.tce_nesting.proofs.Outermost.{above-lower, above-upper, above-neither}
use Rattle.tce_nesting.proofs.nesting.Nesting.above.Goals as goal

pub loop-class-init : goal.loop-class-init
loop-class-init c = refl

pub returns-then-contains : goal.returns-then-contains
returns-then-contains c =
    let items = c.classes-class-items.result.now in
    let later = drop (c.loop-class.class-index + 1) items in
    let here = drop-item items c.loop-class.class-index c.class-item.result c.loop-class-test.true c.class-item.is in
    sym (ap (λ cs. above cs c.args.i c.args.j) (sym c.classes-class-items.ensures.value) ∙ c.loop-class.invariant ∙ ap (λ cs. above cs c.args.i c.args.j) here
    ∙ above-lower c.class-item.result later c.args.i c.args.j (sym c.contains.ensures ∙ c.if-contains.true))

pub returns-then-contains-2 : goal.returns-then-contains-2
returns-then-contains-2 c =
    let items = c.classes-class-items.result.now in
    let later = drop (c.loop-class.class-index + 1) items in
    let here = drop-item items c.loop-class.class-index c.class-item.result c.loop-class-test.true c.class-item.is in
    sym (ap (λ cs. above cs c.args.i c.args.j) (sym c.classes-class-items.ensures.value) ∙ c.loop-class.invariant ∙ ap (λ cs. above cs c.args.i c.args.j) here
    ∙ above-upper c.class-item.result later c.args.i c.args.j (sym c.contains.ensures ∙ c.if-contains.false) (sym c.contains-in-loop-class.ensures ∙ c.if-contains-2.true))

pub loop-class-preserved : goal.loop-class-preserved
loop-class-preserved c =
    let items = c.classes-class-items.result.now in
    let later = drop (c.loop-class.class-index + 1) items in
    let here = drop-item items c.loop-class.class-index c.class-item.result c.loop-class-test.true c.class-item.is in
    c.loop-class.invariant ∙ ap (λ cs. above cs c.args.i c.args.j) here
    ∙ above-neither c.class-item.result later c.args.i c.args.j (sym c.contains.ensures ∙ c.if-contains.false) (sym c.contains-in-loop-class.ensures ∙ c.if-contains-2.false)

pub returns : goal.returns
returns c =
    let items = c.classes-class-items.result.now in
    sym (ap (λ cs. above cs c.args.i c.args.j) (sym c.classes-class-items.ensures.value) ∙ c.loop-class.invariant
    ∙ at_drop_all (λ cs. above cs c.args.i c.args.j) items c.loop-class.class-index c.loop-class-test.false)
