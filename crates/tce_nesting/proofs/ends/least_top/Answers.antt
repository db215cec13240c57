use Rattle.std.proofs.Common.{◌+◌, ◌∙◌, drop, sym, subst}
use Rattle.tce_fusion.specs.Relation.{above}
use Rattle.tce_nesting.specs.Ends.{IsTopOf}
use Rattle.tce_nesting.proofs.Classes.{drop-item}
use Rattle.tce_nesting.proofs.Tops.{no_top, top_of_first}
use Rattle.tce_nesting.proofs.ends.least_top.Goals as goal

pub returns-in_default : goal.returns-in_default
returns-in_default c = no_top c.args.loops c.empty.result (above c.args.classes.now) c.empty.ensures.members

pub returns-then-within : goal.returns-then-within
returns-then-within c = no_top c.args.loops c.empty-then-within.result (above c.args.classes.now) c.empty-then-within.ensures.members

pub returns : goal.returns
returns c =
    let items = c.classes.result.now in
    let item = c.in-Some.ensures.item in
    let here = drop-item items 0 c.in-Some.class.now item.3.0 item.1 in
    subst (λ cs. IsTopOf c.args.loops (above cs) c.meet-top.result) (sym here ∙ c.classes.ensures.value)
    (top_of_first c.args.loops c.in-Some.class.now c.meet-top.result (drop (0 + 1) items) c.meet-top.ensures.members)
