use Rattle.std.proofs.Common.{inr, arith, sym, subst}
use Rattle.std.specs.List.{All}
use Rattle.tce_fusion.specs.Relation.{above, IsCoarser}
use Rattle.tce_nesting.specs.Plan.{LiesWithin}
use Rattle.tce_search.proofs.Bounding.{restricted_within}
use Rattle.tce_search.proofs.table.useful_step.Goals as goal

pub returns-in-Some-clause-stands : goal.returns-in-Some-clause-stands
returns-in-Some-clause-stands c outer =
    let left = c.in_ok-row.ensures.left in
    let stands = c.in-Some.ensures.stands outer in
    record {
      coarser = subst (λ cs. IsCoarser outer (above c.in-Some.bound.classes) (above cs)) left.classes stands.coarser;
      cheap = omega (arith, stands.cheap, left.cost);
    }

pub returns-in-Some-clause-origin : goal.returns-in-Some-clause-origin
returns-in-Some-clause-origin c =
    let join = c.args.join.now.row in
    let choice = c.args.choice.now in
    inr (record {
      sets = c.new.ensures;
      high = c.in-Some.ensures.least;
      within = λ dims within. c.in-Some.ensures.within dims (subst (All (LiesWithin dims)) (sym c.in_ok-row.ensures.left.classes) (restricted_within dims choice.fused join.classes within));
    })
